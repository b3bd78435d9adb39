use Rattle.std.specs.FinMap as map
use Rattle.slotmap_scene.proofs.Common.{ap, key_and_value, list_map, map-map, ◌∙◌}
use Rattle.slotmap_scene.proofs.Scene.values.Goals as goal

pub returns : goal.returns
returns g c = ap (list_map (λ e. e.1)) c.iter.ensures ∙ map-map (λ e. e.1) key_and_value (map.entries c.args.self.now.nodes.live)
