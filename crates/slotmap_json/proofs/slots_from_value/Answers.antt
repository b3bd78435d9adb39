use Rattle.std.proofs.Common.{◌≡◌}
use Rattle.slotmap_json.proofs.Common.{common_steps, ◌∙◌, Some, Err, ap, rules, arith, view, items_view, ReadsJson, Memory}
use Rattle.slotmap_json.proofs.JsonLemmas.{some_asked, has_elements, reads_further, refuses_at}
use Rattle.slotmap_json.proofs.slots_from_value.Goals as goal

pub loop-element-preserved : goal.loop-element-preserved
loop-element-preserved g c =
    reads_further (ReadsJson g.G.Fn c.args.g) c.deref-element-items.result.now c.loop-element.slots.items _ c.loop-element.element-index
    c.element-item.result c.in_ok-slot_from_value.field-0 c.loop-element-test.true c.element-item.is c.loop-element.invariant
    c.in_ok-slot_from_value.ensures c.in_ok-push.ensures.items

pub returns-in_err-slot_from_value-clause-err : goal.returns-in_err-slot_from_value-clause-err
returns-in_err-slot_from_value-clause-err g c =
    let e = c.in_err-slot_from_value.field-0.0 in
    let refused : c.from_residual-in_err-slot_from_value.result ≡ Err e = search rules in
    rw refused (refuses_at (ReadsJson g.G.Fn c.args.g)
    (view c.args.value.now) c.deref-element-items.result.now c.loop-element.slots.items c.loop-element.element-index c.element-item.result e
    (ap (λ vs. Some (items_view vs)) c.deref-element-items.ensures.value ∙ c.in-Some.ensures) c.loop-element-test.true c.element-item.is
    c.loop-element.invariant c.in_err-slot_from_value.ensures)

pub returns-in_err-slots-clause-err : goal.returns-in_err-slots-clause-err
returns-in_err-slots-clause-err g c =
    let lacking : c.from_residual.result ≡ Err Memory = search rules in
    let some = some_asked c.len.result c.with_capacity.result c.in_err-slots.field-0.0 c.with_capacity.ensures.succeeds c.in_err-slots.was in
    rw lacking (has_elements (view c.args.value.now) c.in-Some.elements.now.items c.in-Some.ensures (omega arith))

pub returns-in_err-push-clause-err : goal.returns-in_err-push-clause-err
returns-in_err-push-clause-err g c =
    let lacking : c.from_residual-in_err-push.result ≡ Err Memory = search rules in
    rw lacking (has_elements (view c.args.value.now) c.deref-element-items.result.now
    (ap (λ vs. Some (items_view vs)) c.deref-element-items.ensures.value ∙ c.in-Some.ensures) (omega (arith, c.loop-element-test.true)))

pub returns-clause-ok : goal.returns-clause-ok
returns-clause-ok g c = grind (arith, common_steps)

pub returns-in_default-clause-ok : goal.returns-in_default-clause-ok
returns-in_default-clause-ok g c = search rules
