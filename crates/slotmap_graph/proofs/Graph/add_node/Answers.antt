use Rattle.slotmap_graph.proofs.Common.{true, spent_inserts, spent_keeps}
use Rattle.slotmap_graph.proofs.Graph.add_node.Goals.{then-not-has_node_room+in-Ok, else-not-has_node_room}
use Rattle.slotmap_graph.proofs.Graph.add_node.Goals as goal

pub returns-clause-gone : goal.returns-clause-gone
returns-clause-gone g c k spent = spent_inserts _ _ true c.put_node.ensures.valid _ _ c.put_node.ensures.adds k (elim c.if-not-has_node_room.branch [
  | then-not-has_node_room+in-Ok w ↦ rw w.self-is (spent_keeps _ _ w.reserve_nodes.ensures.makes_room.keeps k spent)
  | else-not-has_node_room w ↦ rw w.self-is spent
])
