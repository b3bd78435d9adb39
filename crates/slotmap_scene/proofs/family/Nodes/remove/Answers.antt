use Rattle.slotmap_scene.proofs.Common.{ap, is_some, leaves_by_removal, refl, sym, true, ◌∙◌}
use Rattle.slotmap_scene.proofs.{Families.seen_value, Placing.is_live}
use Rattle.slotmap_scene.proofs.SceneSteps.{family_leaves, forest_memory, gone_kept, gone_seen}
use Rattle.slotmap_scene.proofs.family.Nodes.remove.Goals as goal

pub unreachable-requires : goal.unreachable-requires
unreachable-requires g c = let live = is_live c.self.invariant c.self.view_is c.args.node c.requires.there in let none = ap is_some c.in_default.ensures.value in absurd (cc)

pub invariant_of-self : goal.invariant_of-self
invariant_of-self g c = gone_kept c.self.invariant c.args.node (is_live c.self.invariant c.self.view_is c.args.node c.requires.there)
    (rw (← c.self.view_is) at c.requires.leaf) (rw (← c.self.view_is) at c.requires.alone)
    (rw (← c.self.view_is) at c.requires.childless) c.remove.new.self c.remove.ensures.live c.remove.ensures.bound

pub returns : goal.returns
returns g c =
    let at = c.self.inside in
    rw (← c.self.view_is) (record {
      value = seen_value at.values.live at.parents.items at.children c.args.node ∙ sym c.in-Some.ensures.value;
      live = gone_seen c.self.invariant c.args.node (is_live c.self.invariant c.self.view_is c.args.node c.requires.there) (rw (← c.self.view_is) at c.requires.leaf)
          (rw (← c.self.view_is) at c.requires.alone) (rw (← c.self.view_is) at c.requires.childless) c.remove.new.self c.remove.ensures.live c.remove.ensures.bound;
      leaves = family_leaves at.values at.parents.items at.children c.remove.new.self at.parents.items at.children
          (leaves_by_removal true at.values c.remove.ensures.valid.before c.args.node (ap is_some (sym c.in-Some.ensures.value)) c.remove.new.self c.in-Some.ensures.removes);
      capacity = forest_memory at.values at.parents.items at.children c.remove.new.self at.parents.items at.children c.remove.ensures.bound c.remove.ensures.valid.capacity refl _;
    })
