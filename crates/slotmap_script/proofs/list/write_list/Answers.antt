use Rattle.std.proofs.Common.{◌≡◌, ◌+◌, ◌++◌, ℤ, None, Err, append_assoc, ap, sym, ◌∙◌, refl, arith, rules}
use Rattle.slotmap_core.specs.declared.serial.SlotRecord.{SlotRecord}
use Rattle.std.specs.Io.KnownBytes.{Appends}
use Rattle.slotmap_script.specs.{ListText.slots_text, StopText.IsBegun}
use Rattle.slotmap_script.proofs.Appending.{Appends-trans, begun_after}
use Rattle.slotmap_script.proofs.Outcomes.{broken}
use Rattle.slotmap_script.proofs.Pieces.{list_begun, list_broken, list_whole, slot_more}
use Rattle.slotmap_script.proofs.list.write_list.Goals as goal

abbrev no_slot : SlotRecord ℤ
no_slot = record { value = None; version = 0 }

pub returns-in_default-add_slot-clause-err : goal.returns-in_default-add_slot-clause-err
returns-in_default-add_slot-clause-err g c =
    let contents = g.W.Write.contents in
    let (part, written, before) = c.loop-i.invariant in
    (refl, list_begun c.args.slots.now c.loop-i.i part c.loop-i.piece.items before (Appends (contents c.args.output.now) (contents c.loop-i.output)) written)

pub returns-in_err-pass_on-clause-err : goal.returns-in_err-pass_on-clause-err
returns-in_err-pass_on-clause-err g c =
    let contents = g.W.Write.contents in
    let (part, written, before) = c.loop-i.invariant in
    let slots = c.args.slots.now in
    let longer = c.add_slot.new.piece.items in
    let added = slot_more slots c.loop-i.i part c.loop-i.piece.items before no_slot (omega arith) longer c.in-Ok-add_slot.ensures.first c.in-Ok-add_slot.ensures.next in
    let refused : c.from_residual.result ≡ Err c.in_err-pass_on.field-0.0 = search rules in
    rw refused (
      c.in_err-pass_on.ensures.err.0,
      list_broken slots (c.loop-i.i + 1) part longer added (contents c.args.output.now) (contents c.loop-i.output) (contents c.pass_on.new.output)
          written c.in_err-pass_on.ensures.err.1,
    )

pub loop-i-preserved : goal.loop-i-preserved
loop-i-preserved g c =
    let (part, written, before) = c.loop-i.invariant in
    let (gone, more, parts) = c.in_ok-pass_on.ensures.ok in
    let added = slot_more c.args.slots.now c.loop-i.i part c.loop-i.piece.items before no_slot (omega arith) c.add_slot.new.piece.items c.in-Ok-add_slot.ensures.first c.in-Ok-add_slot.ensures.next in
    (part ++ gone, Appends-trans _ _ _ part gone written more, append_assoc part gone c.pass_on.new.piece.items ∙ ap (λ t. part ++ t) (sym parts) ∙ added)

pub returns-in_default-writeln-clause-err : goal.returns-in_default-writeln-clause-err
returns-in_default-writeln-clause-err g c =
    let contents = g.W.Write.contents in
    let (part, written, before) = c.loop-i.invariant in
    (refl, list_begun c.args.slots.now c.loop-i.i part c.loop-i.piece.items before (Appends (contents c.args.output.now) (contents c.loop-i.output)) written)

pub returns-clause-err : goal.returns-clause-err
returns-clause-err g c =
    let contents = g.W.Write.contents in
    let slots = c.args.slots.now in
    let (part, written, before) = c.loop-i.invariant in
    let now = contents c.loop-i.output in
    let new = contents c.write_text.new.output in
    let whole = list_whole slots c.loop-i.i part c.loop-i.piece.items before (omega arith) in
    let last = c.deref.ensures.value ∙ c.in-Ok-writeln.ensures.bytes in
    broken (IsBegun c.deref.result.now (Appends now new)) (IsBegun (slots_text slots) (Appends (contents c.args.output.now) new))
    (λ begun. rw (← whole, ← last) (begun_after (contents c.args.output.now) now new part c.deref.result.now written begun)) c.write_text.result c.write_text.ensures.err
