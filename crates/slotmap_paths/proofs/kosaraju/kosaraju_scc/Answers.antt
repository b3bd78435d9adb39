use Rattle.slotmap_paths.proofs.Gathered.{collected_all}
use Rattle.slotmap_paths.proofs.kosaraju.kosaraju_scc.Goals as goal

pub add_components-requires-clause-in_order : goal.add_components-requires-clause-in_order
add_components-requires-clause-in_order g c = rw c.deref.ensures.value c.in_ok-order.ensures.in_order

pub returns-clause-once : goal.returns-clause-once
returns-clause-once g c = collected_all c.args.graph.now c.add_components.new.marks.pairs _ c.in_ok-add_components.ensures.collecting c.in_ok-add_components.ensures.all
