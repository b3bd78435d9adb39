use Rattle.std.proofs.Common.{◌≡◌, ◌∷◌, ◌++◌}
use Rattle.slotmap_hop.proofs.Common.{into_iter_items, with_items_is, AllFitBelow, first_taken, same_length, AreRead-first, AreRead-vacant, AreRead-in_use, IsSound-read, starts-read, reading_counted}
use Rattle.slotmap_hop.proofs.Common.{list_limit, Accepts, reads_as, length, subst, ◌∙◌, arith, AreRead, read_count, with_slot, can_open, reading_all, reading_on}
use Rattle.slotmap_hop.proofs.Common.{[], true, refl, sym, ap, valid}
use Rattle.std.proofs.lemmas.Grind.{common_steps}
use Rattle.slotmap_hop.proofs.HopSlotMap.from_slots.Goals.{In_ok-check_slots, In-None, After-push_reserved-in-loop-slot}
use Rattle.slotmap_hop.proofs.HopSlotMap.from_slots.Goals as goal

accepted : (g : _) (c : In_ok-check_slots g) → Accepts c.args.list.items list_limit
accepted g c = subst (λ l. Accepts l list_limit) c.deref.ensures.value (c.in_ok-check_slots.ensures.ok.0 refl)

pub loop-slot-init : goal.loop-slot-init
loop-slot-init g c =
    let list = c.args.list in
    let taken = first_taken list.items list_limit (accepted g (goal.at.loop-slot-init g c).In_ok-check_slots) _ c.next.result c.next.ensures.cases (c.into_iter-records.ensures.len ∙ list.ok.0) in
    let rest = c.into_iter-slot-iterator.ensures.into_iter_gives in
    let made = c.in_ok-slots.ensures in
    let whole : taken.0 ∷ into_iter_items c.next.new.self ≡ list.items = sym taken.1 ∙ c.into_iter-records.ensures.rest in
    rw rest (record {
      reading = record {
        first = taken.0;
        all = whole;
        left_is = omega (arith, taken.2, ap length whole, c.into_iter-records.ensures.len, list.ok.0);
        read = rw (c.push_reserved.ensures.items, made.items, c.sentinel.ensures) (AreRead-first taken.0);
        few_vacant = omega arith;
        few_elems = omega arith;
      };
      room = omega (arith, taken.2, c.into_iter-records.ensures.len, c.push_reserved.ensures.len, c.push_reserved.ensures.capacity, made.len, made.capacity, c.len.ensures);
    })

with_next : (g : _) (c : After-push_reserved-in-loop-slot g) → c.push_reserved-in-loop-slot.new.self.items ≡ with_slot _ _ _ _ c.loop-slot.invariant.reading.read c.in-Some.slot
with_next g c = c.push_reserved-in-loop-slot.ensures.items ∙ ap (λ s. c.loop-slot.slots.items ++ s ∷ []) c.slot_from.ensures

pub open_slot-requires : goal.open_slot-requires
open_slot-requires g c =
    let at = c.loop-slot in
    let short = (accepted g (goal.at.open_slot-requires g c).In_ok-check_slots).short in
    let next = with_next g (goal.at.open_slot-requires g c).After-push_reserved-in-loop-slot in
    let reading = at.invariant.reading in
    let count = read_count _ _ _ _ reading.read in
    record {
      can =
          rw (c.as_mut_slice.ensures.value, next, c.len-index.ensures, at.slots.ok.0)
          (can_open _ _ _ _ reading.read c.in-Some.slot (omega arith) (omega (arith, short, reading_counted _ _ _ _ _ _ _ reading, c.in-Some.ensures.steps.1)));
    }

pub loop-slot-preserved-then-is_vacant : goal.loop-slot-preserved-then-is_vacant
loop-slot-preserved-then-is_vacant g c =
    let at = c.loop-slot in
    let reading = at.invariant.reading in
    let slot = c.in-Some.slot in
    let steps = c.in-Some.ensures.steps in
    let accepts = accepted g (goal.at.loop-slot-preserved-then-is_vacant g c).In_ok-check_slots in
    let next = with_next g (goal.at.loop-slot-preserved-then-is_vacant g c).After-push_reserved-in-loop-slot in
    let m = c.push_reserved-in-loop-slot.new.self in
    let after = rw (c.as_mut_slice.ensures.value, next, c.len-index.ensures, at.slots.ok.0) at c.open_slot.ensures.places in
    let joined = rw (c.as_mut_slice.ensures.value, next, c.len-index.ensures, at.slots.ok.0) at c.open_slot.ensures.blocks.are in
    let items = with_items_is m c.open_slot.new.slots (same_length _ _ _ _ after ∙ ap length (sym next) ∙ sym m.ok.0) in
    record {
      reading =
          rw items (reading_on _ _ _ _ _ _ _ reading slot _ _ steps.0 steps.1 list_limit accepts _ _ (omega arith)
          (λ consistent. AreRead-vacant _ _ _ _ reading.read slot consistent (omega arith) c.open_slot.new.slots (sym c.is_vacant.ensures ∙ c.if-is_vacant.true)
          c.open_slot.ensures.blocks.list joined after));
      room = omega (arith, at.invariant.room, steps.1, c.push_reserved-in-loop-slot.ensures.len, c.push_reserved-in-loop-slot.ensures.capacity);
    }

pub loop-slot-preserved : goal.loop-slot-preserved
loop-slot-preserved g c =
    let at = c.loop-slot in
    let reading = at.invariant.reading in
    let slot = c.in-Some.slot in
    let steps = c.in-Some.ensures.steps in
    let accepts = accepted g (goal.at.loop-slot-preserved g c).In_ok-check_slots in
    let next = with_next g (goal.at.loop-slot-preserved g c).After-push_reserved-in-loop-slot in
    let count = read_count _ _ _ _ reading.read in
    let counted = reading_counted _ _ _ _ _ _ _ reading in
    record {
      reading =
          rw next (reading_on _ _ _ _ _ _ _ reading slot _ _ steps.0 steps.1 list_limit accepts _ _ (omega arith)
          (λ consistent. AreRead-in_use _ _ _ _ reading.read slot consistent (omega arith) (sym c.is_vacant.ensures ∙ c.if-is_vacant.false) (omega (arith, accepts.short, counted, steps.1))));
      room = omega (arith, at.invariant.room, steps.1, c.push_reserved-in-loop-slot.ensures.len, c.push_reserved-in-loop-slot.ensures.capacity);
    }

all_read : (g : _) (c : In-None g) → AreRead c.args.list.items c.loop-slot.slots.items c.loop-slot.vacant_count c.loop-slot.live_count
all_read g c = reading_all _ _ _ _ _ _ _ c.loop-slot.invariant.reading c.in-None.ensures.steps.0

pub invariant_of-result : goal.invariant_of-result
invariant_of-result g c =
    let versions_fit = subst (λ l. AllFitBelow l (length l)) c.deref.ensures.value c.in_ok-check_slots.ensures.versions_fit in
    IsSound-read c.args.list.items _ _ _ (all_read g (goal.at.invariant_of-result g c).In-None) list_limit (omega arith) (accepted g (goal.at.invariant_of-result g c).In_ok-check_slots) versions_fit

pub returns-clause-ascending : goal.returns-clause-ascending
returns-clause-ascending g c = let read = all_read g (goal.at.returns-clause-ascending g c).In-None in rw (read_count _ _ _ _ read) at read.ascending

pub returns-clause-valid : goal.returns-clause-valid
returns-clause-valid g c = let made = c.loop-slot.slots in valid _ _ _ (invariant_of-result g c) _ (omega (arith, made.ok.0, made.ok.1))

pub returns-clause-reads : goal.returns-clause-reads
returns-clause-reads g c =
    let accepts = accepted g (goal.at.returns-clause-reads g c).In_ok-check_slots in
    let versions_fit = subst (λ l. AllFitBelow l (length l)) c.deref.ensures.value c.in_ok-check_slots.ensures.versions_fit in
    reads_as c.args.list.items list_limit accepts true _
    (starts-read c.args.list.items _ _ _ (all_read g (goal.at.returns-clause-reads g c).In-None) list_limit (omega arith) accepts versions_fit _)
    (returns-clause-valid g c).valid

pub push_reserved-requires : goal.push_reserved-requires
push_reserved-requires g c = grind (arith, common_steps)

pub overflow_cast-index : goal.overflow_cast-index
overflow_cast-index g c = grind (arith, common_steps)

pub overflow_add-live_count : goal.overflow_add-live_count
overflow_add-live_count g c = grind (arith, common_steps)

pub overflow_add-vacant_count : goal.overflow_add-vacant_count
overflow_add-vacant_count g c = grind (arith, common_steps)

pub returns-clause-accepted : goal.returns-clause-accepted
returns-clause-accepted g c = grind (arith, common_steps)
