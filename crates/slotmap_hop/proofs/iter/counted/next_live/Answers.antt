use Rattle.std.proofs.Common.{◌≡◌}
use Rattle.slotmap_hop.proofs.Common.{sym, ◌∙◌, common_steps, arith, rules, slice_get, Counted, IsRead, way_begins, may_read, finds_here, may_leave, goes_onward, left_here, none_here}
use Rattle.slotmap_hop.proofs.Common.{refl, ℕ, List, Some, IsAt, Slot}
use Rattle.slotmap_hop.proofs.iter.counted.next_live.Goals.{Start}
use Rattle.slotmap_hop.proofs.iter.counted.next_live.Goals as goal

-- what was read is the slot at the place then
slot_here : {V : Type 0} {slots : List (Slot V)} {reads start : ℕ} {now new : Counted V} {s : Slot V} → IsAt slots reads start now → IsRead now s new
    → slice_get slots new.index ≡ Some s
slot_here at read = rw (read.index, ← at.kept) read.value

first : (g : _) (c : Start g) → IsAt c.args.counted.now.slots c.args.counted.now.reads c.args.counted.now.index c.args.counted.now
first g c = record { kept = refl; way = way_begins _ _ _ c.requires.can }

pub read-first-requires : goal.read-first-requires
read-first-requires g c = grind (arith, common_steps, may_read)

pub returns-then-is_live : goal.returns-then-is_live
returns-then-is_live g c =
    let finds = finds_here _ _ _ (first g (goal.at.returns-then-is_live g c).Start) c.read-first.ensures (sym c.is_live.ensures ∙ c.if-is_live.true) in
    record { found = finds.0; slot = slot_here (first g (goal.at.returns-then-is_live g c).Start) c.read-first.ensures; slots = finds.1; reads = finds.2 }

pub hop-requires-clause-inside : goal.hop-requires-clause-inside
hop-requires-clause-inside g c =
    let at = first g (goal.at.hop-requires-clause-inside g c).Start in
    grind (arith, may_leave _ _ _ at c.read-first.ensures (none_here _ (sym c.is_live.ensures ∙ c.if-is_live.false)), may_read _ _ _ at c.requires.some)

pub loop-slot-init : goal.loop-slot-init
loop-slot-init g c = search (rules, left_here, none_here, (first g (goal.at.loop-slot-init g c).Start))

pub read-slot-requires : goal.read-slot-requires
read-slot-requires g c = grind (arith, common_steps, may_read)

pub returns-then-is_live-2 : goal.returns-then-is_live-2
returns-then-is_live-2 g c =
    let finds = finds_here _ _ _ c.loop-slot.invariant c.read-slot.ensures (sym c.is_live-in-loop-slot.ensures ∙ c.if-is_live-2.true) in
    record { found = finds.0; slot = slot_here c.loop-slot.invariant c.read-slot.ensures; slots = finds.1; reads = finds.2 }

pub hop-requires-in-loop-slot-clause-inside : goal.hop-requires-in-loop-slot-clause-inside
hop-requires-in-loop-slot-clause-inside g c =
    let at = c.loop-slot.invariant in
    grind (arith, may_leave _ _ _ at c.read-slot.ensures (none_here _ (sym c.is_live-in-loop-slot.ensures ∙ c.if-is_live-2.false)), may_read _ _ _ at c.requires.some)

pub loop-slot-smaller : goal.loop-slot-smaller
loop-slot-smaller g c =
    let at = c.loop-slot.invariant in
    grind (arith, goes_onward _ _ _ at c.read-slot.ensures (none_here _ (sym c.is_live-in-loop-slot.ensures ∙ c.if-is_live-2.false)), may_read _ _ _ at c.requires.some)

pub loop-slot-preserved : goal.loop-slot-preserved
loop-slot-preserved g c = search (rules, left_here, none_here)
