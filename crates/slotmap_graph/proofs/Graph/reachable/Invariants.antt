use Rattle.slotmap_graph.proofs.Common.{[], take, list_map, fold, edges_at, to, ends_along, marked}
use Rattle.std.proofs.Common.{◌≡◌, ◌-◌, ◌∷◌}
use Rattle.slotmap_graph.proofs.Searches.{Searching}
use Rattle.std.specs.FinMap as map
use Rattle.slotmap_graph.proofs.Graph.reachable.Given as goal

abbrev pub invariant-loop-at : goal.invariant-loop-at
invariant-loop-at g l = record {
  searching : Searching l.self.nodes l.self.edges.live (g.K.Key.data_of l.fn.from) l.seen.pairs (list_map g.K.Key.data_of l.found.items) l.at;
  order : list_map g.K.Key.data_of l.found.items
      ≡ fold (λ ks k. fold marked ks (ends_along to l.self.edges.live (edges_at l.self.out k))) (g.K.Key.data_of l.fn.from ∷ []) (take l.at (list_map g.K.Key.data_of l.found.items));
}

abbrev pub decreases-loop-at : goal.decreases-loop-at
decreases-loop-at g l = map.len l.self.nodes.live - l.at
