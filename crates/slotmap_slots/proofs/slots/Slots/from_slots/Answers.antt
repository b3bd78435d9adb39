use Rattle.std.proofs.Common.{◌≡◌, ◌++◌, ◌+◌, ◌-◌, ◌∷◌}
use Rattle.slotmap_slots.proofs.Common.{into_iter_items, nil_from_length, next_consistent, length-append, FitsEmpty-free, vacancies-push, AreRead-retired, AreRead-vacant, free_indices-read}
use Rattle.slotmap_slots.proofs.Common.{IsConsistent, AllFitBelow, length_push, starts-stack, first_taken, common_steps, append_assoc, head_within, AreRead-first, AreRead-live, IsSound-read}
use Rattle.slotmap_slots.proofs.Common.{even_where, list_limit, reads_as, Accepts, odd_of, length, subst, ◌∙◌, append-nil, arith, valid, AreRead, vacancies, Retired}
use Rattle.slotmap_slots.proofs.Common.{[], Some, true, refl, sym, ap, empty, full, Free}
use Rattle.slotmap_slots.proofs.slots.Slots.from_slots.Goals.{In_ok-check_slots, In-Some, In-None}
use Rattle.slotmap_slots.proofs.slots.Slots.from_slots.Goals as goal

accepted : (g : _) (c : In_ok-check_slots g) → Accepts c.args.list.items list_limit
accepted g c = subst (λ l. Accepts l list_limit) c.deref.ensures.value (c.in_ok-check_slots.ensures.ok.0 refl)

pub loop-record-init : goal.loop-record-init
loop-record-init g c =
    let taken = first_taken c.args.list.items list_limit (accepted g (goal.at.loop-record-init g c).In_ok-check_slots) _ c.next.result
    c.next.ensures.cases (c.into_iter-records.ensures.len ∙ c.args.list.ok.0) in
    rw c.into_iter-record-iterator.ensures.into_iter_gives (record {
      first = taken.0;
      all = sym taken.1 ∙ c.into_iter-records.ensures.rest;
      counted = omega (arith, taken.2, c.into_iter-records.ensures.len, c.args.list.ok.0);
      read = rw (c.push_empty.ensures.pushed, c.in_ok-layout.ensures.none) (AreRead-first taken.0);
      few = omega arith;
      room = grind arith;
    })

-- the next record of the list is consistent, and the rest of the list follows it
next : (g : _) (c : In-Some g) → IsConsistent c.in-Some.record
    × (c.loop-record.invariant.first ∷ (c.loop-record.yielded ++ c.in-Some.record ∷ []) ++ into_iter_items c.next-in-loop-record.new.self ≡ c.args.list.items)
next g c =
    let at = c.loop-record in
    let made = c.in-Some.record in
    let rest = into_iter_items c.next-in-loop-record.new.self in
    let accepts = subst (λ l. Accepts l list_limit) c.deref.ensures.value (c.in_ok-check_slots.ensures.ok.0 refl) in
    let seen = at.invariant.first ∷ at.yielded in
    let whole : seen ++ made ∷ rest ≡ c.args.list.items = ap (λ xs. seen ++ xs) (sym c.in-Some.ensures.steps.0) ∙ at.invariant.all in (
      next_consistent c.args.list.items seen rest made list_limit accepts whole,
      ap (λ xs. at.invariant.first ∷ xs) (append_assoc at.yielded (made ∷ []) rest) ∙ whole,
    )

pub loop-record-preserved-in-Some-value : goal.loop-record-preserved-in-Some-value
loop-record-preserved-in-Some-value g c =
    let at = c.loop-record in
    let before = at.invariant in
    let on = next g (goal.at.loop-record-preserved-in-Some-value g c).In-Some in
    let slots = g.L.Layout.slots at.layout in
    let free = vacancies-push slots (full c.in-Some.record.version c.in-Some-value.payload) (vacancies slots (at.live_count + at.aside_count))
    (at.live_count + 1 + at.aside_count) (omega (arith, before.few, before.read.length_is)) in
    record {
      first = before.first;
      all = on.1;
      counted = omega (arith, before.counted, c.in-Some.ensures.steps.1, length_push at.yielded c.in-Some.record);
      read =
          rw (c.push.ensures.pushed, c.in-Some-value.payload-is, free)
          (AreRead-live (before.first ∷ at.yielded) _ _ _ _ before.read c.in-Some.record on.0 (omega arith) c.in-Some-value.payload c.in-Some-value.is);
      few = omega (arith, before.few, length_push at.yielded c.in-Some.record);
      room = grind arith;
    }

pub loop-record-preserved-then-version-eq0 : goal.loop-record-preserved-then-version-eq0
loop-record-preserved-then-version-eq0 g c =
    let at = c.loop-record in
    let before = at.invariant in
    let on = next g (goal.at.loop-record-preserved-then-version-eq0 g c).In-Some in
    let slots = g.L.Layout.slots at.layout in
    let free = vacancies-push slots (empty 0 Retired) (vacancies slots (at.live_count + at.aside_count)) (at.live_count + (at.aside_count + 1)) (omega (arith, before.few, before.read.length_is)) in
    record {
      first = before.first;
      all = on.1;
      counted = omega (arith, before.counted, c.in-Some.ensures.steps.1, length_push at.yielded c.in-Some.record);
      read =
          rw (c.push_empty-then-version-eq0.ensures.pushed, free)
          (AreRead-retired (before.first ∷ at.yielded) _ _ _ _ before.read c.in-Some.record on.0 (omega arith) c.in-None-value.is c.if-version-eq0.true);
      few = omega (arith, before.few, length_push at.yielded c.in-Some.record);
      room = grind arith;
    }

pub loop-record-preserved : goal.loop-record-preserved
loop-record-preserved g c =
    let at = c.loop-record in
    let before = at.invariant in
    let on = next g (goal.at.loop-record-preserved g c).In-Some in
    let slots = g.L.Layout.slots at.layout in
    let free = vacancies-push slots (empty c.in-Some.record.version (Free at.first_vacant))
    (vacancies slots (at.live_count + at.aside_count) + 1) (at.live_count + at.aside_count) (omega (arith, before.few, before.read.length_is)) in
    record {
      first = before.first;
      all = on.1;
      counted = omega (arith, before.counted, c.in-Some.ensures.steps.1, length_push at.yielded c.in-Some.record);
      read =
          rw (c.push_empty-else-version-eq0.ensures.pushed, c.len-index.ensures, free)
          (AreRead-vacant (before.first ∷ at.yielded) _ _ _ _ before.read c.in-Some.record on.0 (omega arith) c.in-None-value.is c.if-version-eq0.false);
      few = omega (arith, before.few, length_push at.yielded c.in-Some.record);
      room = grind arith;
    }

pub push-requires-clause-odd : goal.push-requires-clause-odd
push-requires-clause-odd g c = odd_of c.in-Some.record (next g (goal.at.push-requires-clause-odd g c).In-Some).0 c.in-Some-value.payload c.in-Some-value.is

pub push_empty-requires-else-version-eq0-clause-out : goal.push_empty-requires-else-version-eq0-clause-out
push_empty-requires-else-version-eq0-clause-out g c =
    let at = c.loop-record in
    let steps = goal.at.push_empty-requires-else-version-eq0-clause-out g c in
    let within = head_within _ _ _ (omega (arith, at.invariant.read.length_is)) at.invariant.read.linked in
    FitsEmpty-free _ _ (even_where c.in-Some.record (next g steps.In-Some).0 c.in-None-value.is)
    (omega (arith, within, at.invariant.read.length_is, at.invariant.counted, c.in-Some.ensures.steps.1, (accepted g steps.In_ok-check_slots).short)) (λ none. absurd (c.if-version-eq0.false none))

-- all records were read
all_read : (g : _) (c : In-None g) → (AllFitBelow c.args.list.items (length c.args.list.items))
    × AreRead c.args.list.items (g.L.Layout.slots c.loop-record.layout) c.loop-record.first_vacant
    (vacancies (g.L.Layout.slots c.loop-record.layout) (c.loop-record.live_count + c.loop-record.aside_count)) c.loop-record.live_count
all_read g c = grind (arith, nil_from_length, length-append, append-nil)

pub invariant_of-result : goal.invariant_of-result
invariant_of-result g c =
    let steps = goal.at.invariant_of-result g c in
    let read = all_read g steps.In-None in
    let live : c.loop-record.live_count + c.loop-record.aside_count - c.loop-record.aside_count ≡ c.loop-record.live_count = omega arith in
    record {
      sound = rw live (IsSound-read c.args.list.items _ _ _ _ read.1 list_limit (omega arith) (accepted g steps.In_ok-check_slots) read.0);
      among = omega arith;
      fewer = omega (arith, c.loop-record.invariant.few, c.loop-record.invariant.read.length_is);
      holds = omega (arith, c.loop-record.invariant.room);
    }

pub returns-clause-reads : goal.returns-clause-reads
returns-clause-reads g c =
    let steps = goal.at.returns-clause-reads g c in
    let accepts = accepted g steps.In_ok-check_slots in
    let read = all_read g steps.In-None in
    let settled = invariant_of-result g c in
    reads_as c.args.list.items list_limit accepts true _
    (starts-stack c.args.list.items list_limit accepts _ read.1.places (free_indices-read c.args.list.items _ _ _ _ read.1 list_limit (omega arith) accepts read.0))
    (valid settled.sound _ settled.holds)

pub returns-clause-stack : goal.returns-clause-stack
returns-clause-stack g c = ap Some ((returns-clause-reads g c).starts.stack _ refl)

pub overflow_add-aside_count : goal.overflow_add-aside_count
overflow_add-aside_count g c = grind (arith, common_steps)

pub overflow_add-live_count : goal.overflow_add-live_count
overflow_add-live_count g c = grind (arith, common_steps)

pub overflow_cast-index : goal.overflow_cast-index
overflow_cast-index g c = grind (arith, common_steps)

pub push-requires-clause-room : goal.push-requires-clause-room
push-requires-clause-room g c = grind (arith, common_steps)

pub push_empty-requires-then-version-eq0-clause-room : goal.push_empty-requires-then-version-eq0-clause-room
push_empty-requires-then-version-eq0-clause-room g c = grind (arith, common_steps)

pub push_empty-requires-else-version-eq0-clause-room : goal.push_empty-requires-else-version-eq0-clause-room
push_empty-requires-else-version-eq0-clause-room g c = grind (arith, common_steps)

pub loop-record-smaller : goal.loop-record-smaller
loop-record-smaller g c = grind (arith, common_steps)

pub loop-record-smaller-in-Some-value : goal.loop-record-smaller-in-Some-value
loop-record-smaller-in-Some-value g c = grind (arith, common_steps)

pub loop-record-smaller-then-version-eq0 : goal.loop-record-smaller-then-version-eq0
loop-record-smaller-then-version-eq0 g c = grind (arith, common_steps)

pub push_empty-requires-clause-room : goal.push_empty-requires-clause-room
push_empty-requires-clause-room g c = grind (arith, common_steps)

pub push_empty-requires-clause-out : goal.push_empty-requires-clause-out
push_empty-requires-clause-out g c = grind (arith, common_steps)

pub push_empty-requires-then-version-eq0-clause-out : goal.push_empty-requires-then-version-eq0-clause-out
push_empty-requires-then-version-eq0-clause-out g c = grind (arith, common_steps)
