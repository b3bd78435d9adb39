-- All slots are made vacant at once: then the sentinel's block is the only one.
use Rattle.std.proofs.Common.{◌≡◌, ◌+◌, ◌-◌, ◌%◌, ◌<◌, ◌≤◌, ◌^◌, ◌∷◌, ◌++◌, take, drop, get_or, max, Option, Some, false, length, slice_get, ◌∙◌, arith}
use Rattle.std.proofs.Common.{ℕ, zero, suc, true, List, [], map, set, refl, sym, ap, inl, inr}
use Rattle.std.proofs.lemmas.List.{take_more, take_more_set, drop-set-lt, get_or-drop}
use Rattle.std.proofs.lemmas.{Grind.drop_more_same, Option.slice_get_within}
use Rattle.slotmap_core.proofs.Common.{map-append, nat_tests, cases_Bool, length-map, length-set, last_version, Place, Live, Vacant, Detached, Retired, common_steps}
use Rattle.slotmap_hop.specs.Blocks.{IsBlock}
use Rattle.slotmap_hop.specs.Links.{is_front, vacant_at, links_at, next_at, prev_at, end_at, next_in, end_in, fronts_of, blocks_of, NamesApart, ListsOnce, HasBlockList}
use Rattle.slotmap_hop.specs.Slots.{Links, Single, Front, Back, Slot, SingleState, Empty, version_in, place_in, all_links, places_of, AllGoOn, CanEmpty, emptied}
use Rattle.slotmap_hop.proofs.Writes.{within, flag_read, links_here, links_other, vacancy_kept, apart_set}
use Rattle.slotmap_hop.proofs.{Chain.occurs-head, BlockLemmas.IsBlock-unique, SlotReads.slot_cases, SlotReads.length-all_links}
use Rattle.slotmap_hop.proofs.Circle.{shown, block_at, is_linked}

-- the version before, where 0 is after the last one
abbrev pub before : ℕ → ℕ
before version = (version + 4294967295) % 4294967296

goes_on : (version greatest : ℕ) → version < 2 ^ 32 → before version ≤ greatest → greatest < 4294967294 → (0 < version) × (version < last_version)
goes_on version greatest fits most below = (omega (arith, fits, most, below), omega (arith, fits, most, below))

-- links of slots that are all vacant
module _ (es : List (Option Links)) (all : (x : ℕ) → x < length es → vacant_at es x ≡ true) (some : 0 < length es) where
  past : (x : ℕ) → length es ≤ x → vacant_at es x ≡ false
  past x beyond = elim (cases_Bool (vacant_at es x)) [ inl vacant ↦ absurd (omega (arith, within es x vacant)) | inr live ↦ live ]

  only_front : (x : ℕ) → is_front (vacant_at es) x ≡ true → x ≡ 0
  only_front zero front = refl
  only_front (suc x) front = absurd (grind (arith, all x, within es (suc x)))

  whole_block : IsBlock (vacant_at es) 0 (length es - 1)
  whole_block = record {
    begins = λ left e. absurd (omega arith);
    ordered = omega arith;
    inside = λ x low high. all x (omega (arith, some));
    ends = past (length es - 1 + 1) (omega arith);
  }

  none_listed : (fs : List ℕ) → ListsOnce (is_front (vacant_at es)) fs → fs ≡ []
  none_listed [] listed = refl
  none_listed (y ∷ fs) listed = absurd (grind (arith, listed y, listed 0, only_front y))

  -- such links are sound if the sentinel and the last slot name each other
  sound_whole : length es < 2 ^ 32 → next_at es 0 ≡ 0 → prev_at es 0 ≡ 0 → end_at es 0 ≡ length es - 1 → end_at es (length es - 1) ≡ 0
      → ((x : ℕ) → NamesApart x (links_at es x)) → HasBlockList es
  sound_whole fits next prev back front apart =
      let listed : ListsOnce (is_front (vacant_at es)) [] = λ x. grind (arith, only_front x, all 0 some) in
      (is_linked es [] _ (record {
        listed = listed;
        chain = (next, prev);
        ends = λ x is. rw (only_front x is, back) (whole_block, front);
      }) apart fits refl).list

  -- and if they are sound, they do, and no other block is listed
  pub record Whole : Type 0 where
    pub blocks : blocks_of es ≡ record { sentinel_end = length es - 1; others = [] }
    pub next : next_at es 0 ≡ 0
    pub back : end_at es 0 ≡ length es - 1

  pub whole : HasBlockList es → Whole
  whole list =
      let linked = shown list.linked in
      let none = none_listed (fronts_of es) linked.listed in
      let first = block_at 0 list.linked (omega (arith, occurs-head 0 (fronts_of es))) in
      let back = (IsBlock-unique (vacant_at es) 0 (end_at es 0) 0 (length es - 1) first whole_block (omega arith) (omega arith)).1 in
      record { blocks = rw (none, back) refl; next = grind (arith, none, linked.chain); back = back }

module _ {V : Type 0} where
  -- each slot is vacant, with links to the sentinel
  links_emptied : (slots : List (Slot V)) (i : ℕ) → i < length slots → links_at (all_links (map emptied slots)) i ≡ Some (Single 0 0)
  links_emptied [] i inside = absurd (omega arith)
  links_emptied (s ∷ slots) zero inside = refl
  links_emptied (s ∷ slots) (suc i) inside = links_emptied slots i (omega arith)

  size_emptied : (slots : List (Slot V)) → length (all_links (map emptied slots)) ≡ length slots
  size_emptied slots = length-all_links (map emptied slots) ∙ length-map slots emptied

  apart_emptied : (slots : List (Slot V)) (x : ℕ) → NamesApart x (links_at (all_links (map emptied slots)) x)
  apart_emptied slots x = by slots x x
    where
      by : (slots : List (Slot V)) (i x : ℕ) → NamesApart x (links_at (all_links (map emptied slots)) i)
      by [] i x = tt
      by (s ∷ slots) zero x = tt
      by (s ∷ slots) (suc i) x = by slots i x

  flags_emptied : (slots : List (Slot V)) (i : ℕ) → i < length slots → vacant_at (all_links (map emptied slots)) i ≡ true
  flags_emptied slots i inside = rw (flag_read (all_links (map emptied slots)) i, links_emptied slots i inside) refl

  -- the sentinel and the last slot name each other
  abbrev named : List (Slot V) → List (Option Links)
  named slots = let back = length slots - 1 in set (set (all_links (map emptied slots)) 0 (Some (Front 0 back))) back (Some (Back 0 0))

  pub first_leads_on : (slots : List (Slot V)) → 0 < length slots → links_at (all_links (map emptied slots)) 0 ≡ Some (Single 0 0)
  first_leads_on slots some = links_emptied slots 0 some

  module _ (slots : List (Slot V)) (fits : length slots < 2 ^ 32) where
    pub alone_sound : length slots ≡ 1 → HasBlockList (all_links (map emptied slots))
    alone_sound one =
        let es = all_links (map emptied slots) in
        let size = size_emptied slots in
        let here : links_at es 0 ≡ Some (Single 0 0) = links_emptied slots 0 (omega (arith, one)) in
        let last : length es - 1 ≡ 0 = omega (arith, size, one) in
        let ends : end_at es 0 ≡ 0 = ap (end_in 0) here in
        sound_whole es (λ x inside. flags_emptied slots x (omega (arith, inside, size))) (omega (arith, size, one)) (omega (arith, size, fits))
        (ap next_in here) (grind (arith, nat_tests, ends, here)) (ends ∙ sym last) (rw last ends)
        (apart_emptied slots)

    pub named_sound : 1 < length slots → HasBlockList (named slots)
    named_sound more =
        let base = all_links (map emptied slots) in
        let size = size_emptied slots in
        let back = length slots - 1 in
        let first = Front 0 back in
        let last = Back 0 0 in
        let mid = set base 0 (Some first) in
        let es = named slots in
        let first_there = flags_emptied slots 0 (omega (arith, more)) in
        let flags_mid = vacancy_kept base 0 first first_there in
        let back_there : vacant_at mid back ≡ true = rw flags_mid (flags_emptied slots back (omega (arith, more))) in
        let flags = vacancy_kept mid back last back_there ∙ flags_mid in
        let size_es : length es ≡ length slots = size_set in
        let at_front : links_at es 0 ≡ Some first = links_other mid back (Some last) 0 (λ e. omega (arith, more)) ∙ links_here base 0 (Some first) (within base 0 first_there) in
        let at_back : links_at es back ≡ Some last = links_here mid back (Some last) (within mid back back_there) in
        let front_end : end_at es 0 ≡ back = ap (end_in 0) at_front in
        let back_end : end_at es back ≡ 0 = ap (end_in back) at_back in
        let same : length es - 1 ≡ back = omega (arith, size_es) in
        sound_whole es (λ x inside. rw flags (flags_emptied slots x (omega (arith, inside, size_es)))) (omega (arith, size_es, more)) (omega (arith, size_es, fits))
        (ap next_in at_front) (grind (arith, nat_tests, front_end, back_end, at_back)) (front_end ∙ sym same) (rw same back_end)
        (apart_set mid back (Some last) (within mid back back_there) (omega (arith, more)) (apart_set base 0 (Some first) (within base 0 first_there) (omega (arith, more)) (apart_emptied slots)))
      where
        size_set : length (named slots) ≡ length slots
        size_set = length-set (set (all_links (map emptied slots)) 0 (Some (Front 0 (length slots - 1)))) (length slots - 1) (Some (Back 0 0))
            ∙ length-set (all_links (map emptied slots)) 0 (Some (Front 0 (length slots - 1))) ∙ size_emptied slots

  -- the links that are written
  pub named_is : (slots new : List (Slot V)) → 0 < length slots → new ≡ map emptied slots
      → set (set (all_links new) 0 (Some (Front (next_at (all_links new) 0) (length new - 1)))) (length new - 1) (Some (Back 0 0)) ≡ named slots
  named_is slots new some is = rw (is, links_emptied slots 0 some, length-map slots emptied) refl

  pub back_vacant_still : (slots new : List (Slot V)) (l : Links) → 0 < length slots → new ≡ map emptied slots → vacant_at (set (all_links new) 0 (Some l)) (length new - 1) ≡ true
  back_vacant_still slots new l some is = grind (arith, common_steps, length-map, vacancy_kept, flags_emptied)

  -- the slots before an index are vacant, the others as they were
  pub record VacantBefore (old now : List (Slot V)) (i : ℕ) : Type 0 where
    pub done : take i now ≡ map emptied (take i old)
    pub left : drop i now ≡ drop i old

  module _ {old now : List (Slot V)} {i : ℕ} (vacating : VacantBefore old now i) (size : length now ≡ length old) (inside : i < length now) (d : Slot V) where
    pub read_old : get_or now i d ≡ get_or old i d
    read_old = let at : i ≡ i + 0 = omega arith in rw at (sym (get_or-drop i now 0 d) ∙ ap (λ xs. get_or xs 0 d) vacating.left ∙ get_or-drop i old 0 d)

    pub vacates_on : (v : ℕ) → v ≡ version_in (get_or now i d) → VacantBefore old (set now i (Empty SingleState (v + v % 2) 0 0)) (i + 1)
    vacates_on v is =
        let y : Slot V = Empty SingleState (v + v % 2) 0 0 in
        let same : emptied (get_or old i d) ≡ y = ap (λ v. Empty SingleState (v + v % 2) 0 0) (sym (is ∙ ap version_in read_old)) in
        let more = ap (map emptied) (take_more old i d (omega (arith, inside, size))) ∙ map-append emptied (take i old) (get_or old i d ∷ []) in
        record {
          done = take_more_set now i y inside ∙ ap (λ xs. xs ++ y ∷ []) vacating.done ∙ sym (more ∙ ap (λ s. map emptied (take i old) ++ s ∷ []) same);
          left = drop-set-lt (i + 1) now i y (omega arith) ∙ drop_more_same now old i vacating.left;
        }

  -- what is known of the slots before

  -- the sentinel's version is 0
  pub version_below : (slots : List (Slot V)) → CanEmpty slots → (i : ℕ) (s : Slot V) → slice_get slots i ≡ Some s → version_in s < last_version
  version_below slots can zero s found = grind (arith, can.sound.stacked.sentinel, slot_cases slots 0)
  version_below slots can (suc i) s found = (can.go_on (suc i) s (omega arith) found).1

  -- a live place is vacant after its key, with the next version
  abbrev pub emptied_place : Place V → Place V
  emptied_place (Live version value) = Vacant (version + 1 + 1)
  emptied_place (Detached version) = Detached version
  emptied_place (Vacant next) = Vacant next
  emptied_place Retired = Retired

  place_emptied : (slots : List (Slot V)) → CanEmpty slots → (i : ℕ) (s : Slot V) → slice_get slots i ≡ Some s → place_in (emptied s) ≡ emptied_place (place_in s)
  place_emptied slots can i s found = grind (arith, slot_cases slots i, can.sound.stacked.versions i (place_in s), can.sound.none_detached i (version_in s), can.sound.stacked.sentinel, can.go_on i s)

  places_by : (slots : List (Slot V)) → ((i : ℕ) (s : Slot V) → slice_get slots i ≡ Some s → place_in (emptied s) ≡ emptied_place (place_in s))
      → places_of (map emptied slots) ≡ map emptied_place (places_of slots)
  places_by [] same = refl
  places_by (s ∷ slots) same = rw (same 0 s refl, places_by slots (λ i t found. same (suc i) t found)) refl

  pub places_emptied : (slots : List (Slot V)) → CanEmpty slots → places_of (map emptied slots) ≡ map emptied_place (places_of slots)
  places_emptied slots can = places_by slots (place_emptied slots can)

  -- the place is vacant
  pub emptied_at : (slots : List (Slot V)) (i : ℕ) → i < length slots → (n : ℕ) × (slice_get (places_of (map emptied slots)) i ≡ Some (Vacant n))
  emptied_at [] i inside = absurd (omega arith)
  emptied_at (s ∷ slots) zero inside = (_, refl)
  emptied_at (s ∷ slots) (suc i) inside = emptied_at slots i (omega arith)

  -- a list of places without a live one
  pub none_live_left : (ps : List (Place V)) → ((i v : ℕ) (x : V) → slice_get ps i ≡ Some (Live v x) → ⊥) → map emptied_place ps ≡ ps
  none_live_left [] none = refl
  none_live_left (p ∷ ps) none = rw (here p none, none_live_left ps (λ i v x found. none (suc i) v x found)) refl
    where
      here : (p : Place V) → ((i v : ℕ) (x : V) → slice_get (p ∷ ps) i ≡ Some (Live v x) → ⊥) → emptied_place p ≡ p
      here (Live v x) none = absurd (none 0 v x refl)
      here (Detached v) none = refl
      here (Vacant n) none = refl
      here Retired none = refl

  -- no version of the slots before this one is greater, if each counts as the one before it
  abbrev pub AtMost : List (Slot V) → ℕ → ℕ → Type 0
  AtMost slots end greatest = (i : ℕ) (s : Slot V) → 0 < i → i < end → slice_get slots i ≡ Some s → (version_in s < 2 ^ 32) × (before (version_in s) ≤ greatest)

  pub at_most_on : (slots : List (Slot V)) (end greatest : ℕ) (t : Slot V) → AtMost slots end greatest → slice_get slots end ≡ Some t → version_in t < 2 ^ 32
      → AtMost slots (end + 1) (max greatest (before (version_in t)))
  at_most_on slots end greatest t so_far there fits i s positive inside found = grind (arith, so_far i s positive)

  pub all_go : (slots : List (Slot V)) (end greatest : ℕ) → AtMost slots end greatest → length slots ≤ end → greatest < 4294967294 → AllGoOn slots
  all_go slots end greatest so_far past below i s positive found = grind (arith, common_steps, past, slice_get_within, goes_on)
