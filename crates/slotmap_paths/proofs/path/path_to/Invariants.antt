use Rattle.std.proofs.Common.{◌≡◌, ℕ, ◌-◌, ◌≤◌, Some, length, reverse}
use Rattle.std.specs.FinMap as map
use Rattle.slotmap.specs.Words.{Key, Pairs, get}
use Rattle.slotmap_paths.specs.Costs.{AreTraced, IsRoute}
use Rattle.slotmap_paths.specs.declared.Reached.{Reached}
use Rattle.slotmap_paths.proofs.Routes.{WalksBack}
use Rattle.slotmap_paths.proofs.path.path_to.Given as goal

abbrev pub invariant-loop-reached : goal.invariant-loop-reached
invariant-loop-reached g l = record {
  route : IsRoute l.graph.edges.live (reverse l.edges.items) (g.K.Key.data_of l.at) (g.K.Key.data_of l.fn.node);
  few : length l.edges.items ≤ map.len l.paths.pairs;
  walk : (costs : Pairs ℕ) (start : Key) (far : Reached) → AreTraced l.graph.edges.live costs start l.paths.pairs → get l.paths.pairs (g.K.Key.data_of l.fn.node) ≡ Some far
      → WalksBack l.graph.edges.live l.paths.pairs costs start far.distance (g.K.Key.data_of l.at) l.reached l.edges.items;
}

abbrev pub decreases-loop-reached : goal.decreases-loop-reached
decreases-loop-reached g l = map.len l.paths.pairs - length l.edges.items
