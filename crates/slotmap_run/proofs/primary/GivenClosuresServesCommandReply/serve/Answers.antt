use Rattle.std.proofs.Common.{◌≡◌, Bor, subst, refl, sym, ap, ◌∙◌}
use Rattle.slotmap_core.proofs.Common.{KeepsAt, callable_on_each}
use Rattle.slotmap_run.proofs.Steps.{keeps_itself, inserted, inserted_with, looked, contains, replaced, removed, retains, clears, drained, listed, counts, reserved}
use denote.Param.Always.{mut_by, always_fn}
use Rattle.slotmap_run.proofs.primary.GivenClosuresServesCommandReply.serve.Goals as goal

pub returns-in-Insert-clause-step : goal.returns-in-Insert-clause-step
returns-in-Insert-clause-step g c = let e = c.insert.ensures in rw (c.in-Insert.is, c.insert_reply.ensures) (inserted _ _ _ c.requires.ready.1.3 c.in-Insert.value c.insert.result e.valid e.ok e.err)

pub returns-in-InsertWith-clause-step : goal.returns-in-InsertWith-clause-step
returns-in-InsertWith-clause-step g c =
    let e = c.insert_made.ensures in rw (c.in-InsertWith.is, c.insert_with_reply.ensures) (inserted_with _ _ _ c.requires.ready.1.3 c.insert_made.result e.valid e.ok e.err)

pub returns-in-Get-clause-step : goal.returns-in-Get-clause-step
returns-in-Get-clause-step g c =
    rw c.in-Get.is (looked _ _ _ c.requires.ready.1.3 c.in-Get.key c.get.result c.map.result _
    (λ x r h. record { shown = x; shows = refl; says = record { met = h } }) (keeps_itself _) c.get.ensures.value c.map.ensures.cases)

pub returns-in-Contains-clause-step : goal.returns-in-Contains-clause-step
returns-in-Contains-clause-step g c = rw c.in-Contains.is (contains _ _ _ c.requires.ready.1.3 c.in-Contains.key c.contains_key.result (keeps_itself _) c.contains_key.ensures.value)

pub returns-in-Replace-clause-step : goal.returns-in-Replace-clause-step
returns-in-Replace-clause-step g c =
    let e = c.replace.ensures in rw c.in-Replace.is (replaced _ _ _ c.requires.ready.1.3 c.in-Replace.key c.in-Replace.value c.replace.result e.ok e.replaces e.err e.unchanged)

pub returns-in-Remove-clause-step : goal.returns-in-Remove-clause-step
returns-in-Remove-clause-step g c = rw c.in-Remove.is (removed _ _ _ c.requires.ready.1.3 c.in-Remove.key c.remove.result c.remove.ensures.value c.remove.ensures.removes c.remove.ensures.unchanged)

pub returns-in-Retain-clause-step : goal.returns-in-Retain-clause-step
returns-in-Retain-clause-step g c =
    rw c.in-Retain.is (retains _ _ _ c.requires.ready.1.3 _ _ (λ (s : Bor g.row.P.Denot). s.now ≡ c.args.self.now.keep) (λ f x f' same call. (
      ap (λ (s : Bor g.row.P.Denot). s.now) call.called.met.2 ∙ same,
      subst (λ (y : g.row.P.Denot). KeepsAt g.P.Fn y x.key x.before x.after x.stays) same (record {
        shown = record { ref_ptr = call.shown.ref_ptr; ghost_name = call.called.met.0; now = call.shown.now };
        shows = call.shows;
        left = record { ref_ptr = call.shown.ref_ptr; ghost_name = call.called.met.0; now = call.left.now };
        leaves = call.leaves;
        says = record { met = call.called.met.1 };
      }),
    )) refl c.retain.ensures.retained c.retain.ensures.leaves)

pub retain-requires : goal.retain-requires
retain-requires g c =
    callable_on_each _ _ _ _ (mut_by _ (λ (s : Bor g.row.P.Denot). always_fn g.P.Fn s.now) (λ s a i n. i.at _)
    (λ s a r t i e. subst (λ (y : Bor g.row.P.Denot). always_fn g.P.Fn y.now) (sym e.met.2) i) _ c.requires.ready.1.1)

pub returns-in-Clear-clause-step : goal.returns-in-Clear-clause-step
returns-in-Clear-clause-step g c = rw c.in-Clear.is (clears _ _ _ c.requires.ready.1.3 c.clear.ensures.empty c.clear.ensures.leaves)

pub returns-in-Drain-clause-step : goal.returns-in-Drain-clause-step
returns-in-Drain-clause-step g c =
    let e = c.drain_into-drained.ensures in
    rw c.in-Drain.is (drained _ _ _ c.requires.ready.1.3 c.drain_into-drained.result c.new-pairs.result c.drain_into-drained.new.out c.or_memory.result
    c.new-pairs.ensures.items c.or_memory.ensures.ok c.or_memory.ensures.err e.ok e.empty e.leaves e.unchanged)

pub returns-in-Keys-clause-step : goal.returns-in-Keys-clause-step
returns-in-Keys-clause-step g c =
    rw c.in-Keys.is (listed _ _ _ c.requires.ready.1.3 c.keys_into-listed.result c.new-keys.result c.keys_into-listed.new.out c.or_memory-in-Keys.result
    c.new-keys.ensures.items c.or_memory-in-Keys.ensures.ok c.or_memory-in-Keys.ensures.err c.keys_into-listed.ensures.ok (keeps_itself _))

pub returns-in-Len-clause-step : goal.returns-in-Len-clause-step
returns-in-Len-clause-step g c = rw c.in-Len.is (counts _ _ _ c.requires.ready.1.3 c.len.result (keeps_itself _) c.len.ensures.value)

pub returns-in-Reserve-clause-step : goal.returns-in-Reserve-clause-step
returns-in-Reserve-clause-step g c =
    let e = c.reserve.ensures in rw (c.in-Reserve.is, c.reserve_reply.ensures) (reserved _ _ _ c.requires.ready.1.3 c.in-Reserve.additional c.reserve.result e.makes_room e.err)
