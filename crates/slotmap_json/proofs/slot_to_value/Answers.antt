use Rattle.slotmap_json.proofs.Common.{refl, says_at, view, GivesJson}
use Rattle.slotmap_json.proofs.JsonLemmas.{slot_json_given}
use Rattle.slotmap_json.proofs.slot_to_value.Goals as goal

pub returns-in_ok-f-in-Some : goal.returns-in_ok-f-in-Some
returns-in_ok-f-in-Some g c =
    let x = c.in_ok-f-in-Some.field-0 in
    let given : GivesJson g.F.Fn c.args.f.now c.in-Some.value (view x) = (x, says_at g.F.Fn c.f.ensures c.in_ok-f-in-Some.was, refl) in
    slot_json_given (GivesJson g.F.Fn c.args.f.now) c.args.slot.now c.in-Some.value (view x) c.slot_value.result c.in-Some.is given c.slot_value.ensures
