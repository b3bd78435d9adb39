use Rattle.slotmap_json.proofs.Common.{AllZip, take, map, view, GivesJson, IsSlotJson}
use Rattle.slotmap_json.proofs.slots_to_value.Given as goal

abbrev pub invariant-loop-slot : goal.invariant-loop-slot
invariant-loop-slot g l = AllZip (IsSlotJson (GivesJson g.F.Fn l.f)) (take l.slot-index l.list) (map view l.elements.items)
