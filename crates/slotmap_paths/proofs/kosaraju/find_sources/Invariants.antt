use Rattle.std.proofs.Common.{◌≡◌, ◌<◌, ◌++◌, true, map as list_map}
use Rattle.slotmap.specs.Words.{Key, contains_key}
use Rattle.slotmap_bounded.specs.KeyLists.{times}
use Rattle.slotmap_graph.specs.Parts.{edges_at, from}
use Rattle.slotmap_graph.specs.Search.{ends_along}
use Rattle.slotmap_paths.specs.Deepening.{Found}
use Rattle.slotmap_paths.specs.Gathering.{AreAdded, FindsMore}
use Rattle.slotmap_paths.proofs.kosaraju.find_sources.Given as goal

abbrev pub invariant-loop-source : goal.invariant-loop-source
invariant-loop-source g l = record {
  goes : (goal.iterator-loop-source g).can_next l.source-iterator × (goal.iterator-loop-source g).is_finite l.source-iterator;
  walked : list_map g.K.Key.data_of l.yielded ++ l.source-iterator ≡ ends_along from l.graph.edges.live (edges_at l.graph.into (g.K.Key.data_of l.fn.node));
  extends : (before : Found) → AreAdded before l.fn.marks.pairs (list_map g.K.Key.data_of l.fn.found.items)
      → FindsMore l.graph before l.fn.marks.pairs (list_map g.K.Key.data_of l.fn.found.items) (g.K.Key.data_of l.fn.node) l.marks.pairs (list_map g.K.Key.data_of l.found.items);
  marked : (before : Found) → AreAdded before l.fn.marks.pairs (list_map g.K.Key.data_of l.fn.found.items)
      → (x : Key) → 0 < times x (list_map g.K.Key.data_of l.yielded) → contains_key l.marks.pairs x ≡ true;
}
