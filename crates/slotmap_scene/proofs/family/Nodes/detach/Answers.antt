use Rattle.std.proofs.Common.{◌++◌, ◌∷◌}
use Rattle.slotmap_scene.proofs.Common.{None, [], rules, times_pushed}
use Rattle.slotmap_scene.proofs.Moved.{keys_placed, moved_placed, placed_memory, scene_placed, spent_alike, values_placed}
use Rattle.slotmap_scene.proofs.family.Nodes.detach.Goals as goal

pub returns : goal.returns
returns g c = rw (c.set_parent.ensures, c.leave.ensures) (record {
  trees = moved_placed c.requires.scene c.args.node None (λ ks. ks) c.requires.there tt;
  values = values_placed c.requires.scene c.args.node None (λ ks. ks);
  scene = scene_placed c.requires.scene c.args.node None (λ ks. ks ++ c.args.node ∷ []) c.requires.there tt (λ x ks. times_pushed x ks c.args.node) (λ p is. absurd (cc));
  stale = spent_alike c.args.self.now.nodes _ (keys_placed c.requires.scene c.args.node None (λ ks. ks));
  capacity = placed_memory c.args.self.now _ (keys_placed c.requires.scene c.args.node None (λ ks. ks));
  detaches = search rules;
})
