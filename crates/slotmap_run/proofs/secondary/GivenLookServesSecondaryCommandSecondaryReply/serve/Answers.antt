use Rattle.slotmap_core.proofs.Common.{LooksAt, given_secondary, Option, Some, refl, subst, rules}
use Rattle.slotmap_run.proofs.secondary.GivenLookServesSecondaryCommandSecondaryReply.serve.Goals as goal

-- what `look` returned for the value that was found
pub returns-in-Some-clause-step : goal.returns-in-Some-clause-step
returns-in-Some-clause-step g c =
    let what = given_secondary g.K.Key.data_of g.L.Fn c.args.self.now.look in
    rw c.in-Get.is (
      subst (λ (x : Option g.row.V.Denot). LooksAt what.looks x (Some c.look.result)) c.in-Some.ensures.value
          (record { shown = c.in-Some.value; shows = refl; says = record { met = c.look.ensures } }),
      refl,
    )

pub returns-in-Ok-clause-step : goal.returns-in-Ok-clause-step
returns-in-Ok-clause-step g c = search rules

pub returns-in-Contains-clause-step : goal.returns-in-Contains-clause-step
returns-in-Contains-clause-step g c = search rules
