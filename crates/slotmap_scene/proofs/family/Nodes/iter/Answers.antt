use Rattle.slotmap_scene.proofs.{Common.sym, Common.◌∙◌, Families.seen_pairs}
use Rattle.slotmap_scene.proofs.family.Nodes.iter.Goals as goal

pub returns : goal.returns
returns g c = rw (← c.self.view_is) (c.iter.ensures ∙ sym (seen_pairs c.self.inside.values.live c.self.inside.parents.items c.self.inside.children))
