use Rattle.slotmap_core.proofs.Common.{given_secondary, IfOk-weaker, run_seen_by, each_agrees}
use Rattle.slotmap_core.specs.SecondaryStep.{SideStep}
use Rattle.slotmap_run.proofs.Runs.{run_seen}
use Rattle.slotmap_run.proofs.secondary.run_secondary.Goals as goal

pub returns-clause-run : goal.returns-clause-run
returns-clause-run g c =
    let step = SideStep (given_secondary g.K.Key.data_of g.L.Fn c.args.look) in
    IfOk-weaker c.run_all.result _ _ (λ replies ran. run_seen _ step g.S.Secondary.pairs (λ s r c t h. h) _ _ _ _ ran) c.run_all.ensures.run

pub returns-clause-run_seen : goal.returns-clause-run_seen
returns-clause-run_seen g c =
    let what = given_secondary g.K.Key.data_of g.L.Fn c.args.look in
    IfOk-weaker c.run_all.result _ _ (λ replies ran f shows.
    run_seen_by what.data_of what.looks f shows _ _ _ _ (run_seen _ (SideStep what) g.S.Secondary.pairs (λ s r c t h. h) _ _ _ _ ran)) c.run_all.ensures.run

pub returns-clause-agrees : goal.returns-clause-agrees
returns-clause-agrees g c =
    let what = given_secondary g.K.Key.data_of g.L.Fn c.args.look in
    IfOk-weaker c.run_all.result _ _ (λ replies ran f shows had.
    each_agrees what.data_of what.looks f shows _ _ _ _ (run_seen _ (SideStep what) g.S.Secondary.pairs (λ s r c t h. h) _ _ _ _ ran) had) c.run_all.ensures.run
