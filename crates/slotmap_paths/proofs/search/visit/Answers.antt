use Rattle.std.proofs.Common.{◌∙◌, refl, sym}
use Rattle.slotmap_paths.proofs.EdgeSteps.{on_ok, visit_few, visit_latest, visit_less, visit_searching, visit_skipped}
use Rattle.slotmap_paths.proofs.search.visit.Goals as goal

pub returns-then-contains_key-clause-searching : goal.returns-then-contains_key-clause-searching
returns-then-contains_key-clause-searching g c start v =
    visit_skipped g.K.Key.data_of c.args.graph.now c.args.costs.now.pairs start _ _ _ _ v (sym c.contains_key.ensures.value ∙ c.if-contains_key.true)

pub returns-clause-searching : goal.returns-clause-searching
returns-clause-searching g c start v =
    let unsettled = sym c.contains_key.ensures.value ∙ c.if-contains_key.false in
    let puts = c.in_ok-settle.ensures.settles in
    c.follow_all.ensures.searching start (visit_latest g.K.Key.data_of c.args.graph.now c.args.costs.now.pairs start _ _ _ _ v unsettled _ _ puts refl refl)
    (rw c.settle.ensures.waiting (visit_searching g.K.Key.data_of c.args.graph.now c.args.costs.now.pairs start _ _ _ _ v unsettled _ _ puts refl refl))

pub returns-clause-less : goal.returns-clause-less
returns-clause-less g c start v =
    let unsettled = sym c.contains_key.ensures.value ∙ c.if-contains_key.false in
    let puts = c.in_ok-settle.ensures.settles in
    rw c.follow_all.ensures.settled (on_ok _ _ (λ few.
    visit_less g.K.Key.data_of c.args.graph.now c.args.costs.now.pairs start _ _ _ _ v unsettled _ _ puts refl refl _ (rw c.settle.ensures.waiting at few))
    c.follow_all.result c.follow_all.ensures.few)

pub returns-clause-err : goal.returns-clause-err
returns-clause-err g c start v =
    let unsettled = sym c.contains_key.ensures.value ∙ c.if-contains_key.false in
    let puts = c.in_ok-settle.ensures.settles in
    c.follow_all.ensures.err start _ (visit_few g.K.Key.data_of c.args.graph.now c.args.costs.now.pairs start _ _ _ _ v unsettled _ _ puts refl refl)
    (visit_latest g.K.Key.data_of c.args.graph.now c.args.costs.now.pairs start _ _ _ _ v unsettled _ _ puts refl refl)
    (rw c.settle.ensures.waiting (visit_searching g.K.Key.data_of c.args.graph.now c.args.costs.now.pairs start _ _ _ _ v unsettled _ _ puts refl refl))
