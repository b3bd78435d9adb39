-- What calls know of slots, by what the map holds.
-- For this crate and for the layouts of the maps.
use Rattle.std.specs.FinMap as map
use Rattle.std.specs.FinSet as set
use Rattle.std.proofs.Common.{◌≡◌, ◌≢◌, ◌+◌, ◌-◌, ◌<◌, ◌≤◌, ◌^◌, ◌∷◌, ◌++◌, subst, ◌∙◌, arith, ℕ, zero, true, List, length, slice_get, Some, refl}
use Rattle.std.proofs.Common.{ap, suc, [], set, sym}
use Rattle.slotmap_core.proofs.Common.{Content, IsContent, IsLive, IsDetached, places, MakesRoom, StaysValid, content_of_places, used_places, length-set, length_push, keeps, Key, used, most}
use Rattle.slotmap_slots.specs.Slot.{Slot, full, payload_at, with_payload, places_of, IsSound, vacancies, IsSettled, map_of}
use Rattle.slotmap_slots.proofs.SlotLemmas.{Present, present, count_positive, rewritten, reattached, with_payload-is, valid, slots_fit, used_places-slots, free_below}
use Rattle.slotmap_slots.proofs.SlotGrowth.{PresentDetached, present_detached, some_free}

module _ {P : Type 0} {slots : List (Slot P)} {fits head aside used_count : ℕ} (settled : IsSettled slots fits head aside used_count) {now : Content P}
    (view : content_of_places (map_of slots head (vacancies slots used_count) (fits - 1)) ≡ now) where
  -- what is held between calls is well formed
  pub settled_valid : IsContent true now
  settled_valid = subst (IsContent true) view (valid settled.sound fits settled.holds)

  pub settled_present : (k : Key) → IsLive now k → Present settled.sound k
  settled_present k is_live = present settled.sound k (ap (λ c. map.contains_key c.live k) view ∙ is_live)

  pub settled_positive : (k : Key) → IsLive now k → 1 ≤ used_count - aside
  settled_positive k is_live = count_positive settled.sound _ _ _ (settled_present k is_live).there

  -- the payload that is read at the index of a live key is its value
  pub settled_value : (k : Key) → IsLive now k → (i : ℕ) → i ≡ k.index → (x : P) → payload_at slots i ≡ Some x → map.get now.live k ≡ Some x
  settled_value k is_live i at x read = grind (arith, settled_present k is_live)

  pub settled_aside : (k : Key) → IsDetached now k → PresentDetached settled.sound k
  settled_aside k out = present_detached settled.sound k (ap (λ c. set.contains c.detached k) view ∙ out)

  -- some slot is kept if a key is detached
  pub aside_positive : (k : Key) → IsDetached now k → P → 1 ≤ aside
  aside_positive k out w =
      let free = vacancies slots used_count in
      let found = settled_aside k out in
      let after = free_below (reattached settled.sound k.index found.own_version k.version found.there found.before w).sound in
      omega (arith, after, length-set slots k.index (full k.version w), settled.fewer, settled.among)

  pub settled_room : 0 < now.room → (used_places (places_of slots) < most) × (length slots < fits + vacancies slots used_count)
  settled_room room = grind (arith, used_places-slots settled.sound)

  -- the places, with the sentinel's, are the slots
  pub settled_places : places now + 1 ≡ length slots
  settled_places = omega (arith, ap places (sym view), used_places-slots settled.sound, settled.sound.counted, settled.sound.stacked.counted)

  pub settled_used : used now ≡ used_count
  settled_used = omega (arith, ap used (sym view), used_places-slots settled.sound, settled.fewer)

  pub settled_fits : length slots < 2 ^ 32
  settled_fits = slots_fit settled.sound

  -- if a place is vacant, or one more slot fits, there is room
  pub settled_reuses : head ≢ 0 → 0 < now.room
  settled_reuses other = grind (arith, some_free settled.sound other, used_places-slots settled.sound, settled_fits)

  pub settled_spare : fits < 2 ^ 32 → length slots < fits → 0 < now.room
  settled_spare limit spare = omega (arith, ap (λ c. c.room) (sym view), used_places-slots settled.sound)

-- what is held after a call that allocates nothing
pub settled_stays : {P : Type 0} (slots : List (Slot P)) (fits head aside used_count : ℕ) → IsSettled slots fits head aside used_count → {now : Content P}
    → content_of_places (map_of slots head (vacancies slots used_count) (fits - 1)) ≡ now
    → (slots2 : List (Slot P)) (fits2 head2 aside2 used_count2 : ℕ) → IsSettled slots2 fits2 head2 aside2 used_count2 → fits2 ≡ fits
    → StaysValid true now (content_of_places (map_of slots2 head2 (vacancies slots2 used_count2) (fits2 - 1)))
settled_stays slots fits head aside used_count settled view slots2 fits2 head2 aside2 used_count2 after same = grind (arith, settled_valid settled view, settled_valid after refl)

-- how many slots are free once one is added
pub vacancies-push : {P : Type 0} (slots : List (Slot P)) (s : Slot P) (free used_count : ℕ) → used_count + free ≡ length slots → vacancies (slots ++ s ∷ []) used_count ≡ free
vacancies-push slots s free used_count all = omega (arith, length_push slots s)

-- one slot is written
vacancies-set : {P : Type 0} (slots : List (Slot P)) (i : ℕ) (s : Slot P) (free used_count : ℕ) → used_count + free + 1 ≡ length slots → vacancies (set slots i s) used_count ≡ free
vacancies-set slots i s free used_count all = omega (arith, length-set slots i s)

settled-set : {P : Type 0} (slots : List (Slot P)) (fits head aside used_count : ℕ) → IsSettled slots fits head aside used_count
    → (i : ℕ) (s : Slot P) {head2 free2 : ℕ} → IsSound (set slots i s) head2 free2 (used_count - aside)
    → used_count + free2 + 1 ≡ length slots → IsSettled (set slots i s) fits head2 aside used_count
settled-set slots fits head aside used_count settled i s {head2} {free2} sound all = grind (arith, vacancies-set, length-set)

-- a payload is written
length-with_payload : {P : Type 0} (slots : List (Slot P)) (i : ℕ) (p : P) → length (with_payload slots i p) ≡ length slots
length-with_payload [] i p = refl
length-with_payload (s ∷ slots) zero p = refl
length-with_payload (s ∷ slots) (suc i) p = omega (arith, length-with_payload slots i p)

pub vacancies-written : {P : Type 0} (slots : List (Slot P)) (i : ℕ) (p : P) (used_count : ℕ) → vacancies (with_payload slots i p) used_count ≡ vacancies slots used_count
vacancies-written slots i p used_count = ap (λ n. n - (used_count + 1)) (length-with_payload slots i p)

pub with_payload-settled : {P : Type 0} (slots : List (Slot P)) (fits head aside used_count : ℕ) → IsSettled slots fits head aside used_count → (i v : ℕ) (x : P)
    → slice_get slots i ≡ Some (full v x) → (w : P) → IsSettled (with_payload slots i w) fits head aside used_count
with_payload-settled slots fits head aside used_count settled i v x there w =
    let free = vacancies slots used_count in
    grind (
      arith,
      with_payload-is settled.sound i v x there w,
      settled-set slots fits head aside used_count settled i (full v w) (rewritten settled.sound i v x there w).sound (omega (arith, settled.fewer)),
    )

-- room for n more keys had to be allocated, and was allocated or not
pub grown : {P : Type 0} (slots : List (Slot P)) (fits head aside used_count : ℕ) → IsSettled slots fits head aside used_count → {now : Content P}
    → content_of_places (map_of slots head (vacancies slots used_count) (fits - 1)) ≡ now
    → (more : ℕ) → fits ≤ more → (n : ℕ) (ok : Type 0) → now.room < n → (ok → (used now + n ≤ most) × (used now + n + 1 ≤ more))
    → MakesRoom true now n ok (content_of_places (map_of slots head (vacancies slots used_count) (more - 1)))
grown slots fits head aside used_count settled {now} view more on n ok none enough =
    let after = valid settled.sound more (omega (arith, settled.holds)) in
    grind (arith, settled_valid settled view, keeps (map_of slots head (vacancies slots used_count) (fits - 1)) (more - 1) (omega arith))
