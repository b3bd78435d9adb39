use Rattle.slotmap_scene.proofs.Common.{arith, sym, ◌∙◌}
use Rattle.slotmap_scene.proofs.Families.{parent_gone, seen_has}
use Rattle.slotmap_scene.proofs.family.Nodes.parent.Goals as goal

pub returns-then-not-contains_key : goal.returns-then-not-contains_key
returns-then-not-contains_key g c = rw (← c.self.view_is)
    (sym (parent_gone c.self.inside.values.live c.self.inside.parents.items c.self.inside.children c.args.node
    (sym c.contains_key.ensures.value ∙ c.if-not-contains_key.true)))

pub up-requires : goal.up-requires
up-requires g c = grind (arith, seen_has c.self.inside.values.live c.self.inside.parents.items c.self.inside.children c.args.node, c.contains_key.ensures.value)
