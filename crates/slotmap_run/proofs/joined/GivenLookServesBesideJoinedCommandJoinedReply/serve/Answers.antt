use Rattle.std.proofs.Common.{◌≡◌, Some, None, refl, ap, ◌∙◌, true, not, is_ok}
use Rattle.slotmap_run.proofs.Joins.{inserts, full, no_memory, removed, puts_step, takes_step, no_room, looks, removes_no_key, puts_no_key, looks_no_key, takes_no_key}
use Rattle.slotmap_run.proofs.JoinRuns.{served}
use Rattle.slotmap_run.proofs.joined.GivenLookServesBesideJoinedCommandJoinedReply.serve.Goals as goal

pub returns-else-is_err-clause-step : goal.returns-else-is_err-clause-step
returns-else-is_err-clause-step g c =
    let pushed : is_ok c.push.result ≡ true = c.is_err.ensures.negation ∙ ap not c.if-is_err.false in
    let told = rw pushed at c.push.ensures.items in
    rw c.in-Insert.is (served (rw told (inserts _ _ _ _ _ c.requires.ready.1.1 c.in-Ok.ensures.valid.after c.in-Ok.key c.in-Insert.value c.in-Ok.ensures.ok)) refl refl)

pub returns-in-Err-Full-clause-step : goal.returns-in-Err-Full-clause-step
returns-in-Err-Full-clause-step g c =
    let e = c.in-Err-Full.ensures in
    rw c.in-Insert.is (served (full _ _ _ _ _ c.requires.ready.1.1 c.in-Insert.value c.in-Err-Full.value (rw c.in-Err-Full.field-0-is at e.err) (e.valid.unchanged refl)) refl refl)

pub returns-in-Err-Memory-clause-step : goal.returns-in-Err-Memory-clause-step
returns-in-Err-Memory-clause-step g c =
    let e = c.in-Err-Memory.ensures in
    rw c.in-Insert.is (served (no_memory _ _ _ _ _ c.requires.ready.1.1 c.in-Insert.value c.in-Err-Memory.value (rw c.in-Err-Memory.field-0-is at e.err) (e.valid.unchanged refl)) refl refl)

pub returns-in-Some-clause-step : goal.returns-in-Some-clause-step
returns-in-Some-clause-step g c =
    let e = c.remove.ensures in
    rw c.in-Remove.is (served (removed _ _ _ _ c.args.maps.now.keys.now.items c.requires.ready.1.1 c.in-Remove.number c.in-Some.key (cc) c.remove.result e.value e.removes e.unchanged) refl refl)

pub returns-in-None-clause-step : goal.returns-in-None-clause-step
returns-in-None-clause-step g c = rw c.in-Remove.is (served (removes_no_key _ _ _ c.args.maps.now.keys.now.items c.requires.ready.1.1 c.in-Remove.number (cc)) refl refl)

pub returns-in-Ok-insert-clause-step : goal.returns-in-Ok-insert-clause-step
returns-in-Ok-insert-clause-step g c =
    let e = c.in-Ok-insert.ensures in
    rw c.in-Put.is (served (rw e.ok (puts_step _ _ _ c.args.maps.now.keys.now.items c.requires.ready.1.1 c.in-Put.number c.in-Some-key_named.key (cc)
    c.in-Put.value c.in-Ok-insert.before e.value)) refl refl)

pub returns-in-Err-clause-step : goal.returns-in-Err-clause-step
returns-in-Err-clause-step g c =
    let e = c.in-Err.ensures in
    rw c.in-Put.is (served (rw e.unchanged (no_room _ _ _ c.args.maps.now.keys.now.items c.requires.ready.1.1 c.in-Put.number c.in-Some-key_named.key (cc)
    c.in-Put.value c.in-Err.field-0.0 (rw c.in-Err.field-0-is at e.err))) refl refl)

pub returns-in-None-key_named-clause-step : goal.returns-in-None-key_named-clause-step
returns-in-None-key_named-clause-step g c = rw c.in-Put.is (served (puts_no_key _ _ _ c.args.maps.now.keys.now.items c.requires.ready.1.1 c.in-Put.number (cc) c.in-Put.value) refl refl)

pub returns-in-Some-get-clause-step : goal.returns-in-Some-get-clause-step
returns-in-Some-get-clause-step g c =
    rw c.in-Look.is (served (looks _ _ _ c.args.maps.now.keys.now.items c.requires.ready.1.1 c.in-Look.number c.in-Some-key_named-2.key (cc) _ (Some c.look.result) c.in-Some-get.ensures.value
    (record { shown = c.in-Some-get.value; shows = refl; says = record { met = c.look.ensures } })) refl refl)

pub returns-in-None-get-clause-step : goal.returns-in-None-get-clause-step
returns-in-None-get-clause-step g c =
    rw c.in-Look.is (served (looks _ _ _ c.args.maps.now.keys.now.items c.requires.ready.1.1 c.in-Look.number c.in-Some-key_named-2.key (cc) None None c.in-None-get.ensures.value tt) refl refl)

pub returns-in-None-key_named-2-clause-step : goal.returns-in-None-key_named-2-clause-step
returns-in-None-key_named-2-clause-step g c = rw c.in-Look.is (served (looks_no_key _ _ _ c.args.maps.now.keys.now.items c.requires.ready.1.1 c.in-Look.number (cc)) refl refl)

pub returns-in-Some-key_named-3-clause-step : goal.returns-in-Some-key_named-3-clause-step
returns-in-Some-key_named-3-clause-step g c =
    let e = c.remove-in-Some-key_named-3.ensures in
    rw c.in-Take.is (served (rw e.removes (takes_step _ _ _ c.args.maps.now.keys.now.items c.requires.ready.1.1 c.in-Take.number c.in-Some-key_named-3.key (cc)
    c.remove-in-Some-key_named-3.result e.value)) refl refl)

pub returns-in-None-key_named-3-clause-step : goal.returns-in-None-key_named-3-clause-step
returns-in-None-key_named-3-clause-step g c = rw c.in-Take.is (served (takes_no_key _ _ _ c.args.maps.now.keys.now.items c.requires.ready.1.1 c.in-Take.number (cc)) refl refl)
