use Rattle.slotmap_graph.proofs.Callers.{found_there, not_found}
use Rattle.slotmap_graph.proofs.Cycles.{no_cycle_closed}
use Rattle.std.proofs.Common.{refl}
use Rattle.graph_callers.proofs.forward.add_forward.Goals as goal

pub returns-then-contains-clause-refused : goal.returns-then-contains-clause-refused
returns-then-contains-clause-refused c none =
    c.in-Ok.ensures.found_is_reachable c.args.from (rw (← c.deref.ensures.value) (found_there (λ k. k) c.deref.result.now c.args.from c.if-contains.ensures.cases))

pub returns-clause-forward : goal.returns-clause-forward
returns-clause-forward c some leads =
    not_found (λ k. k) c.deref.result.now c.args.from c.if-contains.ensures.cases (rw c.deref.ensures.value (c.in-Ok.ensures.reachable_is_found c.args.from c.in_ok-edge.ensures.live.1 leads))

pub returns-clause-acyclic : goal.returns-clause-acyclic
returns-clause-acyclic c = no_cycle_closed _ _ _ _ c.in_ok-edge.ensures.adds.live (returns-clause-forward c refl)
