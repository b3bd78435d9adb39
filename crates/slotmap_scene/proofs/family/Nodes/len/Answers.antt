use Rattle.slotmap_scene.proofs.{Common.sym, Common.◌∙◌, Families.seen_len}
use Rattle.slotmap_scene.proofs.family.Nodes.len.Goals as goal

pub returns : goal.returns
returns g c = rw (← c.self.view_is) (c.len.ensures.value ∙ sym (seen_len c.self.inside.values.live c.self.inside.parents.items c.self.inside.children))
