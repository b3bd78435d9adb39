use Rattle.slotmap_graph.proofs.{Common.arith, Common.nat_tests, Callers.no_edges}
use Rattle.slotmap_graph.proofs.Graph.is_empty.Goals as goal

pub returns-clause-edges : goal.returns-clause-edges
returns-clause-edges g c is = no_edges c.args.self.now c.node_count.ensures.joined (grind (arith, nat_tests, is, c.node_count.ensures.value))
