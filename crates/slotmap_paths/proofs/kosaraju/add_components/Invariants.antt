use Rattle.std.proofs.Common.{◌≡◌, ◌<◌, ◌≤◌, true, drop, length, map as list_map}
use Rattle.slotmap.specs.Words.{Key, contains_key}
use Rattle.slotmap_bounded.specs.KeyLists.{times}
use Rattle.slotmap_paths.specs.Gathering.{Collecting}
use Rattle.slotmap_paths.proofs.kosaraju.add_components.Given as goal

abbrev pub invariant-loop-left : goal.invariant-loop-left
invariant-loop-left g l = record {
  within : l.left ≤ length l.order;
  collecting : Collecting l.graph l.marks.pairs (list_map (λ c. list_map g.K.Key.data_of c.items) l.components.items);
  done : (x : Key) → 0 < times x (drop l.left (list_map g.K.Key.data_of l.order)) → contains_key l.marks.pairs x ≡ true;
}

abbrev pub decreases-loop-left : goal.decreases-loop-left
decreases-loop-left g l = l.left
