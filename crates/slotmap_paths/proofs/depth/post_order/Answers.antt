use Rattle.std.proofs.Common.{◌∙◌, sym}
use Rattle.std.proofs.lemmas.List.{length-map}
use Rattle.slotmap_paths.proofs.{Acyclic.goes_backward, Depths.ended_all, Depths.ended_count, Depths.ended_order}
use Rattle.slotmap_paths.proofs.depth.post_order.Goals as goal

pub returns-clause-count : goal.returns-clause-count
returns-clause-count g c = rw c.into_order.ensures
    (sym (length-map c.visit_all.new.search.order.items g.K.Key.data_of) ∙ ended_count c.args.graph.now _ _ c.in_ok-visit_all.ensures.deepening c.in_ok-visit_all.ensures.all)

pub returns-clause-in_order : goal.returns-clause-in_order
returns-clause-in_order g c = rw c.into_order.ensures (ended_order c.args.graph.now _ _ c.in_ok-visit_all.ensures.deepening)

pub returns-clause-backward : goal.returns-clause-backward
returns-clause-backward g c = rw c.into_order.ensures (goes_backward c.args.graph.now c.visit_all.ensures.joined _
    (ended_all c.args.graph.now _ _ c.in_ok-visit_all.ensures.deepening c.in_ok-visit_all.ensures.all) (ended_order c.args.graph.now _ _ c.in_ok-visit_all.ensures.deepening))
