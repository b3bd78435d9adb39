-- What an iterator over the vectors of slots yields.
use native.Mathlib.Decide.{dec_lt}
use Rattle.std.proofs.Common.{◌≡◌, ◌+◌, ◌-◌, ◌<◌, ◌≤◌, ◌%◌, ◌^◌, ◌∷◌, ◌↔◌, map as list_map, length, set, drop, slice_get, get_or, Option, Some, None, ap}
use Rattle.slotmap_core.proofs.Common.{◌∙◌, slice_get_within, get_or_from_slice_get, length-set, drop_all, drop-set-lt, slice_get-set_other, found_within, entries_from, entries-live, length-map}
use Rattle.slotmap_core.proofs.Common.{IsKey, Content, Vacant, live, IsSome, refl, sym, subst, arith, same_Some, drop_more, key, ℕ, zero, suc, List, []}
use Rattle.slotmap_slots.specs.Slot.{Slot, IsSlot, IsSound, AreSlotsOf, vacancies, place_by, places_of}
use Rattle.slotmap_slots.specs.declared.layout.Use.{Use}
use Rattle.slotmap_slots.specs.declared.layout.Use.TheVariants.{InUse, Free, Detached, Retired}
use Rattle.slotmap_basic.specs.Columns.{zip_slots, versions_of, AllEven, IsNextOdd}
use Rattle.slotmap_basic.specs.Odds.{AllOdd}
use Rattle.slotmap_basic.specs.Iter.{pairs_from, pairs_left, IsIter}
use Rattle.slotmap_slots.proofs.SlotLemmas.{slots_fit}
use Rattle.slotmap_basic.proofs.ColumnLemmas.{zip-length, zip-at}
use Rattle.std.specs.FinMap as map

module _ {V : Type 0} where
  -- the pairs are the entries of the places
  pairs-places : (i : ℕ) (vs : List ℕ) (ls : List Use) (xs : List (Option V)) → length ls ≡ length vs → length xs ≡ length vs
      → ((j : ℕ) (s : Slot V) → slice_get (zip_slots vs ls xs) j ≡ Some s → IsSlot s)
      → pairs_from i vs xs ≡ entries_from i (places_of (zip_slots vs ls xs))
  pairs-places i [] ls xs same_l same_x each = refl
  pairs-places i (v ∷ vs) (InUse ∷ ls) (Some x ∷ xs) same_l same_x each = ap (λ es. (key i v, x) ∷ es) (pairs-places (i + 1) vs ls xs (omega arith) (omega arith) (λ j. each (suc j)))
  pairs-places i (v ∷ vs) (l ∷ ls) (Some x ∷ xs) same_l same_x each = let wrong = (each 0 (record { version = v; usage = l; payload = Some x }) refl).in_use.0 refl in absurd (cc)
  pairs-places i (v ∷ vs) (l ∷ ls) (None ∷ xs) same_l same_x each = pairs-places (i + 1) vs ls xs (omega arith) (omega arith) (λ j. each (suc j))
  pairs-places i (v ∷ vs) ls xs same_l same_x each = absurd (omega arith)

module _ {V : Type 0} (vs : List ℕ) (ls : List Use) (xs : List (Option V)) (same_l : length ls ≡ length vs) (same_x : length xs ≡ length vs)
    (head free count : ℕ) (sound : IsSound (zip_slots vs ls xs) head free count) where
  pairs-entries : pairs_left 0 vs xs ≡ map.entries (live (places_of (zip_slots vs ls xs)))
  pairs-entries = pairs-places 0 vs ls xs same_l same_x sound.each ∙ sym (entries-live (places_of (zip_slots vs ls xs)))

  IsIter-start : IsIter vs xs 0 count
  IsIter-start = record {
    values_length = same_x;
    fits = omega (arith, zip-length vs ls xs same_l same_x, slots_fit sound);
    placed = λ j v value from at_v at_x.
        let l = found_within ls j (omega (arith, slice_get_within vs j v at_v, same_l)) in
        (sound.each j (record { version = v; usage = l.0; payload = value }) (zip-at vs ls xs j v l.0 value at_v l.1 at_x)).odd;
    counted = sym sound.live_counted ∙ map.len-entries (live (places_of (zip_slots vs ls xs))) ∙ ap length (sym pairs-entries);
  }

-- the first version is even: it is the sentinel's
module _ {V : Type 0} where
  vacant_even : (v : ℕ) (l : Use) (x : Option V) → IsSlot (record { version = v; usage = l; payload = x }) → place_by v l x ≡ Vacant 1 → v % 2 ≡ 0
  vacant_even v (Free n) x is at = elim (dec_lt 0 (v % 2)) [
    | yes p ↦ absurd (let wrong = is.in_use.0 (is.odd.1 (omega arith)) in cc)
    | no p ↦ omega arith
  ]
  vacant_even v InUse (Some p) is at = absurd (cc)
  vacant_even v InUse None is at = absurd (cc)
  vacant_even v Detached x is at = absurd (cc)
  vacant_even v Retired x is at = absurd (cc)

  first_even : (vs : List ℕ) (ls : List Use) (xs : List (Option V)) → length ls ≡ length vs → length xs ≡ length vs
      → ((j : ℕ) (s : Slot V) → slice_get (zip_slots vs ls xs) j ≡ Some s → IsSlot s)
      → slice_get (places_of (zip_slots vs ls xs)) 0 ≡ Some (Vacant 1) → (0 < length vs) × (get_or vs 0 0 % 2 ≡ 0)
  first_even (v ∷ vs) (l ∷ ls) (x ∷ xs) same_l same_x each at = (omega arith, vacant_even v l x (each 0 _ refl) (same_Some _ _ at))
  first_even [] ls xs same_l same_x each at = absurd (cc)
  first_even (v ∷ vs) [] xs same_l same_x each at = absurd (omega arith)
  first_even (v ∷ vs) (l ∷ ls) [] same_l same_x each at = absurd (omega arith)

drop-found : {X : Type 0} (xs : List X) (i : ℕ) (x : X) → slice_get xs i ≡ Some x → drop i xs ≡ x ∷ drop (i + 1) xs
drop-found xs i x found = drop_more xs i x (slice_get_within xs i x found) ∙ ap (λ y. y ∷ drop (i + 1) xs) (get_or_from_slice_get xs i x x found)

module _ {V : Type 0} where
  length-pairs : (i : ℕ) (vs : List ℕ) (xs : List (Option V)) → length (pairs_from i vs xs) ≤ length vs
  length-pairs i (v ∷ vs) (None ∷ xs) = omega (arith, length-pairs (i + 1) vs xs)
  length-pairs i (v ∷ vs) (Some x ∷ xs) = omega (arith, length-pairs (i + 1) vs xs)
  length-pairs i vs xs = omega arith

-- what an iterator from i comes to next: the place `end`, with its version and its value
pub record Next {V : Type 0} (vs : List ℕ) (xs : List (Option V)) (i left end : ℕ) : Type 0 where
  pub version : ℕ
  pub value : V
  pub version_there : slice_get vs end ≡ Some version
  pub value_there : slice_get xs end ≡ Some (Some value)
  pub is_key : (v : ℕ) → v ≡ version → v < 2 ^ 32 → IsKey (key end v)
  pub first : pairs_left i vs xs ≡ (key end version, value) ∷ pairs_left (end + 1) vs xs
  pub iter_on : IsIter vs xs (end + 1) (left - 1)

module _ {V : Type 0} (vs : List ℕ) (xs : List (Option V)) (i left : ℕ) (iterates : IsIter vs xs i left) where
  left-found : (v : ℕ) (o : Option V) → slice_get vs i ≡ Some v → slice_get xs i ≡ Some o → pairs_left i vs xs ≡ pairs_from i (v ∷ drop (i + 1) vs) (o ∷ drop (i + 1) xs)
  left-found v o at_v at_x = ap (λ vs. pairs_from i vs (drop i xs)) (drop-found vs i v at_v) ∙ ap (pairs_from i (v ∷ drop (i + 1) vs)) (drop-found xs i o at_x)

  later : (n : ℕ) → n ≡ length (pairs_left (i + 1) vs xs) → IsIter vs xs (i + 1) n
  later n counted = record {
    values_length = iterates.values_length;
    fits = iterates.fits;
    placed = λ j v value from at_v at_x. iterates.placed j v value (omega arith) at_v at_x;
    counted = counted;
  }

  -- a place with an even version is skipped
  pass : (v : ℕ) → slice_get vs i ≡ Some v → (v % 2 ≡ 1 → ⊥) → IsIter vs xs (i + 1) left × (pairs_left (i + 1) vs xs ≡ pairs_left i vs xs)
  pass v at_v even =
      let there = found_within xs i (omega (arith, slice_get_within vs i v at_v, iterates.values_length)) in
      let same = sym (left-found v there.0 at_v there.1 ∙ by there.0 (iterates.placed i v there.0 (omega arith) at_v there.1)) in
      (later left (iterates.counted ∙ ap length (sym same)), same)
    where
      by : (o : Option V) → IsSome o ↔ v % 2 ≡ 1 → pairs_from i (v ∷ drop (i + 1) vs) (o ∷ drop (i + 1) xs) ≡ pairs_left (i + 1) vs xs
      by None placed = refl
      by (Some x) placed = absurd (even (placed.0 refl))

  -- at an odd version the next pair is yielded, also by an iterator with an earlier start
  comes : (start : ℕ) → pairs_left i vs xs ≡ pairs_left start vs xs → (v : ℕ) (o : Option V) → slice_get vs i ≡ Some v → slice_get xs i ≡ Some o
      → v % 2 ≡ 1 → Next vs xs start left i
  comes start same v None at_v at_x odd = let some = (iterates.placed i v None (omega arith) at_v at_x).1 odd in absurd (cc)
  comes start same v (Some x) at_v at_x odd =
      grind (arith, left-found v (Some x) at_v at_x, later (left - 1) (omega (arith, iterates.counted, ap length (left-found v (Some x) at_v at_x))), slice_get_within vs i v at_v)

-- if there are as many pairs as places, each place has a value
module _ {V : Type 0} where
  all_some : (i : ℕ) (vs : List ℕ) (xs : List (Option V)) → length vs ≤ length (pairs_from i vs xs) → (j : ℕ) (o : Option V) → j < length vs
      → slice_get xs j ≡ Some o → IsSome o
  all_some i (v ∷ vs) (None ∷ xs) full j o below at = absurd (omega (arith, full, length-pairs (i + 1) vs xs))
  all_some i (v ∷ vs) (Some x ∷ xs) full zero o below at = grind arith
  all_some i (v ∷ vs) (Some x ∷ xs) full (suc j) o below at = all_some (i + 1) vs xs (omega (arith, full)) j o (omega (arith, below)) at
  all_some i vs [] full j o below at = absurd (cc)
  all_some i [] xs full j o below at = absurd (omega (arith, below))

  rest_some : (vs : List ℕ) (xs : List (Option V)) → length vs ≤ length (pairs_left 1 vs xs) + 1 → (j : ℕ) (o : Option V) → 1 ≤ j → j < length vs
      → slice_get xs j ≡ Some o → IsSome o
  rest_some (v ∷ vs) (x ∷ xs) full (suc j) o from below at = all_some 1 vs xs (omega (arith, full)) j o (omega (arith, below)) at
  rest_some vs xs full zero o from below at = absurd (omega (arith, from))
  rest_some vs [] full j o from below at = absurd (cc)
  rest_some [] xs full j o from below at = absurd (omega (arith, below))

  rest_odd : (vs : List ℕ) (xs : List (Option V)) (n : ℕ) → IsIter vs xs 1 n → n + 1 ≡ length vs → AllOdd vs 1 (length vs)
  rest_odd vs xs n iterates full i from below =
      let v = found_within vs i below in
      let o = found_within xs i (omega (arith, below, iterates.values_length)) in
      ap (λ x. x % 2) (get_or_from_slice_get vs i v.0 0 v.1)
      ∙ (iterates.placed i v.0 o.0 from v.1 o.1).0 (rest_some vs xs (omega (arith, full, iterates.counted)) i o.0 from below o.1)

-- an iterator over the vectors of these slots, behind the sentinel; it yields the entries of the map
pub record Starts {V : Type 0} (c : Content V) (vs : List ℕ) (xs : List (Option V)) (n : ℕ) : Type 0 where
  pub some : 1 ≤ length vs
  pub iterates : IsIter vs xs 1 n
  pub yields : pairs_left 1 vs xs ≡ map.entries c.live
  pub odd : n + 1 ≡ length vs → AllOdd vs 1 (length vs)

pub iter_from : {V : Type 0} {slots : List (Slot V)} {c : Content V} → AreSlotsOf slots c → (vs : List ℕ) (xs : List (Option V))
    → ((ls : List Use) × (length ls ≡ length vs) × (length xs ≡ length vs) × (zip_slots vs ls xs ≡ slots)) → (n : ℕ) → n ≡ map.len c.live → Starts c vs xs n
iter_from {V} {slots} {c} shows vs xs parts n all =
    let head = shows.first_vacant in
    let free = vacancies slots shows.used_count in
    let live_count = shows.used_count - shows.aside_count in
    let sound = shows.settled.sound in
    let zipped : IsSound (zip_slots vs parts.0 xs) head free live_count = subst (λ ss. IsSound ss head free live_count) (sym parts.3) sound in
    let first = first_even vs parts.0 xs parts.1 parts.2 zipped.each zipped.stacked.sentinel in
    let held : live (places_of slots) ≡ c.live = ap (λ d. d.live) shows.content in
    let count : live_count ≡ n = sym sound.live_counted ∙ ap map.len held ∙ sym all in
    let start : IsIter vs xs 0 n = subst (IsIter vs xs 0) count (IsIter-start vs parts.0 xs parts.1 parts.2 head free live_count zipped) in
    let v = found_within vs 0 first.0 in
    let on = pass vs xs 0 n start v.0 v.1 (λ odd. omega (arith, odd, first.1, get_or_from_slice_get vs 0 v.0 0 v.1)) in
    record {
      some = omega (arith, first.0);
      iterates = on.0;
      yields = on.1 ∙ pairs-entries vs parts.0 xs parts.1 parts.2 head free live_count zipped
          ∙ ap (λ ss. map.entries (live (places_of ss))) parts.3 ∙ ap (λ m. map.entries m) held;
      odd = rest_odd vs xs n on.0;
    }

module _ {V : Type 0} where
  zip_parts : (slots : List (Slot V)) → zip_slots (versions_of slots) (list_map (λ s. s.usage) slots) (list_map (λ s. s.payload) slots) ≡ slots
  zip_parts [] = refl
  zip_parts (s ∷ slots) = ap (λ ss. s ∷ ss) (zip_parts slots)

  -- if all slots but the sentinel's are live, their versions are odd
  pub full_slots : {slots : List (Slot V)} {c : Content V} → AreSlotsOf slots c → map.len c.live + 1 ≡ length (versions_of slots) → AllOdd (versions_of slots) 1 (length (versions_of slots))
  full_slots {slots} {c} shows full =
      let versions = length-map slots (λ s. s.version) in
      (iter_from shows (versions_of slots) (list_map (λ s. s.payload) slots) (
        list_map (λ s. s.usage) slots,
        length-map slots (λ s. s.usage) ∙ sym versions,
        length-map slots (λ s. s.payload) ∙ sym versions,
        zip_parts slots,
      ) (map.len c.live) refl).odd full

-- the value at a place that was passed isn't yielded any more
module _ {V : Type 0} (vs : List ℕ) (xs : List (Option V)) (i : ℕ) (o : Option V) where
  pub left-taken : pairs_left (i + 1) vs (set xs i o) ≡ pairs_left (i + 1) vs xs
  left-taken = ap (pairs_from (i + 1) (drop (i + 1) vs)) (drop-set-lt (i + 1) xs i o (omega arith))

  pub IsIter-taken : (n : ℕ) → IsIter vs xs (i + 1) n → IsIter vs (set xs i o) (i + 1) n
  IsIter-taken n on = record {
    values_length = length-set xs i o ∙ on.values_length;
    fits = on.fits;
    placed = λ j v value from at_v at_x. on.placed j v value from at_v (sym (slice_get-set_other xs i j o (λ same. omega arith)) ∙ at_x);
    counted = on.counted ∙ ap length (sym left-taken);
  }

-- places with even versions are skipped
pass_all : {V : Type 0} (vs : List ℕ) (xs : List (Option V)) (left n i : ℕ) → IsIter vs xs i left → i + n ≤ length vs → AllEven vs i (i + n)
    → IsIter vs xs (i + n) left × (pairs_left (i + n) vs xs ≡ pairs_left i vs xs)
pass_all vs xs left zero i iterates within even = subst (λ m. IsIter vs xs m left × (pairs_left m vs xs ≡ pairs_left i vs xs)) (omega arith) (iterates, refl)
pass_all vs xs left (suc n) i iterates within even =
    let here = found_within vs i (omega arith) in
    let one = pass vs xs i left iterates here.0 here.1 (λ odd. omega (arith, even i here.0 (omega arith) (omega arith) here.1)) in
    let rest = pass_all vs xs left n (i + 1) one.0 (omega arith) (λ j v from below. even j v (omega arith) (omega arith)) in
    subst (λ m. IsIter vs xs m left × (pairs_left m vs xs ≡ pairs_left i vs xs)) (omega arith) (rest.0, rest.1 ∙ one.1)

-- the next pair is at the first odd version, also if the versions were read as another list
pub next_on : {V : Type 0} {vs : List ℕ} {xs : List (Option V)} {i left : ℕ} → IsIter vs xs i left → {seen : List ℕ} → seen ≡ vs
    → {end : ℕ} → IsNextOdd seen i end → end < length seen → Next vs xs i left end
next_on {V} {vs} {xs} {i} {left} iterates {seen} whole {end} found there =
    let stop : i + (end - i) ≡ end = omega (arith, found.on) in
    let past = pass_all vs xs left (end - i) i iterates (omega (arith, ap length whole, found.on, found.within))
    (λ j v from below at. found.passed j v from (omega (arith, found.on)) (ap (λ vs. slice_get vs j) whole ∙ at)) in
    let to : IsIter vs xs end left × (pairs_left end vs xs ≡ pairs_left i vs xs) = subst (λ m. IsIter vs xs m left × (pairs_left m vs xs ≡ pairs_left i vs xs)) stop past in
    let version = found_within vs end (omega (arith, there, ap length whole)) in
    let value = found_within xs end (omega (arith, slice_get_within vs end version.0 version.1, iterates.values_length)) in
    comes vs xs end left to.0 i to.1 version.0 value.0 version.1 value.1 (found.odd version.0 (ap (λ vs. slice_get vs end) whole ∙ version.1))

pub some_left : {V : Type 0} {vs : List ℕ} {xs : List (Option V)} {i left end : ℕ} → IsIter vs xs i left → Next vs xs i left end → 0 < left
some_left iterates next = omega (arith, iterates.counted, ap length next.first)

-- at the end of the vectors nothing is yielded any more
pub ends_at : {V : Type 0} {vs : List ℕ} {xs : List (Option V)} {i left : ℕ} → IsIter vs xs i left → {seen : List ℕ} → seen ≡ vs → i ≤ length seen → AllEven seen i (length seen)
    → {end : ℕ} → end ≡ length seen → (pairs_left i vs xs ≡ []) × IsIter vs xs end left × (pairs_left end vs xs ≡ [])
ends_at {V} {vs} {xs} {i} {left} iterates {seen} whole within even {end} at =
    let stop : i + (length vs - i) ≡ end = omega (arith, within, at, ap length whole) in
    let past = pass_all vs xs left (length vs - i) i iterates (omega (arith, within, ap length whole))
    (λ j v from below read. even j v from (omega (arith, within, ap length whole)) (ap (λ vs. slice_get vs j) whole ∙ read)) in
    let to : IsIter vs xs end left × (pairs_left end vs xs ≡ pairs_left i vs xs) = subst (λ m. IsIter vs xs m left × (pairs_left m vs xs ≡ pairs_left i vs xs)) stop past in
    let none : pairs_left end vs xs ≡ [] = ap (λ vs. pairs_from end vs (drop end xs)) (drop_all end vs (omega (arith, at, ap length whole))) in
    (sym to.1 ∙ none, to.0, none)
