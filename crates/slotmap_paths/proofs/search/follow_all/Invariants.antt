use Rattle.std.proofs.Common.{◌≡◌, ◌+◌, ◌≤◌, ◌++◌, length}
use Rattle.slotmap.specs.Words.{Key}
use Rattle.slotmap_graph.specs.Parts.{edges_at}
use Rattle.slotmap_paths.specs.Searching.{IsLatest, Searching}
use Rattle.slotmap_paths.proofs.search.follow_all.Given as goal

abbrev pub invariant-loop-edge : goal.invariant-loop-edge
invariant-loop-edge g l = record {
  goes : (goal.iterator-loop-edge g).can_next l.edge-iterator × (goal.iterator-loop-edge g).is_finite l.edge-iterator;
  walked : l.yielded ++ l.edge-iterator ≡ edges_at l.graph.out (g.K.Key.data_of l.fn.node);
  settled : l.search.settled ≡ l.fn.search.settled;
  searching : (start : Key) → IsLatest l.fn.search.settled.pairs (g.K.Key.data_of l.fn.node) l.fn.distance
      → Searching g.K.Key.data_of l.graph.edges.live l.costs.pairs start l.fn.search.settled.pairs l.fn.search.waiting.waiting (edges_at l.graph.out (g.K.Key.data_of l.fn.node))
      → Searching g.K.Key.data_of l.graph.edges.live l.costs.pairs start l.fn.search.settled.pairs l.search.waiting.waiting l.edge-iterator;
  few : length l.search.waiting.waiting ≤ length l.fn.search.waiting.waiting + length l.yielded;
}
