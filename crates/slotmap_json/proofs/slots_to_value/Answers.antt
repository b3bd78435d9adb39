use Rattle.slotmap_json.specs.Json.{GivesJson, IsSlotJson}
use Rattle.slotmap_json.proofs.JsonLemmas.{goes_further}
use Rattle.slotmap_json.proofs.slots_to_value.Goals as goal

pub loop-slot-preserved : goal.loop-slot-preserved
loop-slot-preserved g c =
    goes_further (IsSlotJson (GivesJson g.F.Fn c.args.f)) c.args.list.now c.loop-slot.elements.items _ c.loop-slot.slot-index c.slot-item.result
    c.in_ok-slot_to_value.field-0 c.loop-slot-test.true c.slot-item.is c.loop-slot.invariant c.in_ok-slot_to_value.ensures c.in_ok-push.ensures.items
