use Rattle.slotmap_run.proofs.Steps.{plain, detached, reattach_served}
use Rattle.slotmap_run.proofs.primary.GivenClosuresServesDetachCommandReply.serve.Goals as goal

pub returns-in-Plain-clause-step : goal.returns-in-Plain-clause-step
returns-in-Plain-clause-step g c = rw c.in-Plain.is (plain _ _ _ c.requires.ready.1.3 c.in-Plain.command c.serve.result c.serve.ensures.step)

pub returns-in-Detach-clause-step : goal.returns-in-Detach-clause-step
returns-in-Detach-clause-step g c = rw c.in-Detach.is (detached _ _ _ c.requires.ready.1.3 c.in-Detach.key c.detach.result c.detach.ensures.value c.detach.ensures.detaches c.detach.ensures.unchanged)

pub returns-in-Reattach-clause-step : goal.returns-in-Reattach-clause-step
returns-in-Reattach-clause-step g c =
    let e = c.reattach.ensures in
    rw (c.in-Reattach.is, c.reattach_reply.ensures) (reattach_served _ _ _ c.requires.ready.1.3 c.in-Reattach.key c.in-Reattach.value c.reattach.result e.ok e.err e.valid)
