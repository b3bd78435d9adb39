use Rattle.slotmap_core.proofs.Common.{refl}
use Rattle.slotmap_run.proofs.Joins.{detached, reattach_served, detaches_no_key, reattaches_no_key}
use Rattle.slotmap_run.proofs.JoinRuns.{served}
use Rattle.slotmap_run.proofs.joined.GivenLookServesBesideJoinedDetachCommandJoinedReply.serve.Goals as goal

pub returns-in-Plain-clause-step : goal.returns-in-Plain-clause-step
returns-in-Plain-clause-step g c = let step = c.serve.ensures.step in rw c.in-Plain.is (served (record { step = step.follows.step; lasts = step.follows.lasts }) step.same_primary step.same_secondary)

pub returns-in-Some-clause-step : goal.returns-in-Some-clause-step
returns-in-Some-clause-step g c =
    let e = c.detach.ensures in
    rw c.in-Detach.is (served (detached _ _ _ _ c.args.maps.now.keys.now.items c.requires.ready.1.1 c.in-Detach.number c.in-Some.key (cc) c.detach.result e.value e.detaches e.unchanged) refl refl)

pub returns-in-None-clause-step : goal.returns-in-None-clause-step
returns-in-None-clause-step g c = rw c.in-Detach.is (served (detaches_no_key _ _ _ c.args.maps.now.keys.now.items c.requires.ready.1.1 c.in-Detach.number (cc)) refl refl)

pub returns-in-Some-key_named-clause-step : goal.returns-in-Some-key_named-clause-step
returns-in-Some-key_named-clause-step g c =
    let e = c.reattach.ensures in
    rw (c.in-Reattach.is, c.joined_reattach_reply.ensures) (served (reattach_served _ _ _ _ c.args.maps.now.keys.now.items c.requires.ready.1.1 c.in-Reattach.number c.in-Some-key_named.key (cc)
    c.in-Reattach.value c.reattach.result e.ok e.err e.valid) refl refl)

pub returns-in-None-key_named-clause-step : goal.returns-in-None-key_named-clause-step
returns-in-None-key_named-clause-step g c =
    rw c.in-Reattach.is (served (reattaches_no_key _ _ _ c.args.maps.now.keys.now.items c.requires.ready.1.1 c.in-Reattach.number (cc) c.in-Reattach.value) refl refl)
