use Rattle.slotmap_scene.proofs.Common.{ap, key_at, length, length-map, sym, ◌∙◌}
use Rattle.slotmap_scene.proofs.children.ChildKeys.len.Goals as goal

pub returns : goal.returns
returns g c = c.len.ensures.value ∙ sym (length-map c.self.inside.members (key_at c.self.inside.nodes.now.live)) ∙ ap length c.self.view_is
