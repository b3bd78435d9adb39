-- How an insert fills a slot or adds one, and what a look-up of a detached key reads.
use Rattle.std.specs.FinMap as map
use Rattle.std.specs.FinSet as set
use Rattle.std.proofs.Common.{◌==◌, ◌≡◌, ◌≢◌, ◌+◌, ◌-◌, ◌^◌, ◌<◌, ◌∷◌, ◌++◌, ◌↔◌, IsTrue, option_and_then, option_map, ◌∙◌, ⊎_elim, slice_get}
use Rattle.std.proofs.Common.{sym, ap, subst, inl, arith, eq-eqb, Bool, true, false, List, length, Some, ℕ, [], set, None, refl}
use Rattle.slotmap_core.proofs.Common.{Detached as DetachedPlace, content_of_places, slice_get_within, contains-detached, IsStacked-filled, IsStacked-pushed, IsStacked-sentinel, vacant_version, offer}
use Rattle.slotmap_core.proofs.Common.{used_places, IsVersion, IsStacked, eq-zero-or-pos, length-map, same_Some, found_within, len-live-push, live-sentinel, detached, inserted, map_push, false_of}
use Rattle.slotmap_core.proofs.Common.{most, Key, Inserts, Live, Vacant, live, IsOn, inserts, mapped, at_push, key, kept_at}
use Rattle.slotmap_slots.specs.Slot.{Slot, full, empty, version_at, usage_at, next_at, next_of, version_before, place_of, places_of, free_indices, IsFreeList, IsSlot, IsSound, map_of, Free, Detached}
use Rattle.slotmap_slots.proofs.SlotLemmas.{Written, slot_at, is_empty, IsSlot-full, place_at, IsFreeList-push, IsFreeList-set, free_indices-stack, stacked_free, written}

module _ {P : Type 0} where
  -- the sentinel alone
  abbrev pub sentinel : List (Slot P)
  sentinel = empty 0 (Free 0) ∷ []

  pub IsSound-sentinel : IsSound sentinel 0 0 0
  IsSound-sentinel = grind (arith, live-sentinel, IsStacked-sentinel)

  -- one more slot at the end
  pub each-push : (slots : List (Slot P)) (s : Slot P) → ((i : ℕ) (t : Slot P) → slice_get slots i ≡ Some t → IsSlot t) → IsSlot s
      → (i : ℕ) (t : Slot P) → slice_get (slots ++ s ∷ []) i ≡ Some t → IsSlot t
  each-push slots s each slot i t there = ⊎_elim (λ same. subst IsSlot same.1 slot) (λ other. each i t other.1) (at_push slots s i t there)

module _ {P : Type 0} {slots : List (Slot P)} {head free count : ℕ} (sound : IsSound slots head free count) where
  pub IsSound-pushed : (w : P) → length slots + 1 < 2 ^ 32 → IsSound (slots ++ full 1 w ∷ []) head free (count + 1)
  IsSound-pushed w fits = record {
    each = each-push slots (full 1 w) sound.each (IsSlot-full 1 w refl);
    stack = sound.stack;
    linked = IsFreeList-push slots (full 1 w) sound.stack head sound.linked;
    counted = sound.counted;
    live_counted = ap (λ ps. map.len (live ps)) (map_push place_of slots (full 1 w)) ∙ omega (arith, len-live-push (places_of slots) (Live 1 w), sound.live_counted);
    stacked = rw (map_push place_of slots (full 1 w)) (IsStacked-pushed (places_of slots) sound.stack sound.stacked w (omega (arith, length-map slots place_of)));
  }

  pub inserts-pushed : (w : P) (c : ℕ) → used_places (places_of slots) < most → free ≡ 0
      → Inserts (content_of_places (map_of slots head free c)) (offer (places_of slots) (free_indices slots free head)) w (content_of_places (map_of (slots ++ full 1 w ∷ []) head free c))
  inserts-pushed w c below none =
      rw (none, map_push place_of slots (full 1 w)) (inserts (places_of slots) [] c c (offer (places_of slots) []) w (rw none at (stacked_free sound)) below refl (omega arith))

  -- the free list starts with index 0 if and only if it has no slot
  head_is : (is : List ℕ) → sound.stack ≡ is → IsFreeList slots is head → length is ≡ free → head ≡ 0 ↔ free ≡ 0
  head_is [] same linked counted = (λ _. sym counted, λ _. linked)
  head_is (i ∷ is) same linked counted = grind (arith, sound.stacked.listed i (subst (λ is. IsOn is i) (sym same) (inl refl)))

  pub none_free : head ≡ 0 → free ≡ 0
  none_free none = (head_is sound.stack refl sound.linked sound.counted).0 none

  pub some_free : head ≢ 0 → 0 < free
  some_free other = ⊎_elim (λ none. absurd (other ((head_is sound.stack refl sound.linked sound.counted).1 none))) (λ some. omega arith) (eq-zero-or-pos free)

  -- then the next key has a new place
  pub offer-new : head ≡ 0 → offer (places_of slots) (free_indices slots free head) ≡ key (length slots) 1
  offer-new none = ap (λ n. offer (places_of slots) (free_indices slots n head)) (none_free none) ∙ ap (λ n. key n 1) (length-map slots place_of)

  -- else the place on top of the stack is filled
  pub record Top : Type 0 where
    pub rest : List ℕ
    pub whole : sound.stack ≡ head ∷ rest
    pub version : ℕ
    pub next : ℕ
    pub there : slice_get slots head ≡ Some (empty version (Free next))
    pub linked : IsFreeList slots rest next

  pub top : head ≢ 0 → Top
  top other = by sound.stack refl sound.linked sound.counted
    where
      by : (is : List ℕ) → sound.stack ≡ is → IsFreeList slots is head → length is ≡ free → Top
      by [] same linked counted = absurd (other linked)
      by (i ∷ is) same linked counted =
          let here : usage_at slots head ≡ Some (Free linked.1.0) = ap (usage_at slots) linked.0 ∙ linked.1.1 in
          let s = mapped (λ s. s.usage) (slice_get slots head) (Free linked.1.0) here in
          let is_free = is_empty s.0 (Free linked.1.0) (sound.each head s.0 s.1) s.2 (λ e. absurd (cc)) in
          record {
            rest = is;
            whole = same ∙ ap (λ h. h ∷ is) (sym linked.0);
            version = s.0.version;
            next = linked.1.0;
            there = s.1 ∙ ap Some is_free;
            linked = linked.1.2;
          }

module _ {P : Type 0} {slots : List (Slot P)} {head free count : ℕ} {sound : IsSound slots head free count} (t : Top sound) where
  top_place : slice_get (places_of slots) head ≡ Some (Vacant (t.version + 1))
  top_place = place_at slots head (empty t.version (Free t.next)) t.there

  top_stacked : IsStacked (places_of slots) (head ∷ t.rest)
  top_stacked = subst (IsStacked (places_of slots)) t.whole sound.stacked

  pub top_version : IsVersion (t.version + 1)
  top_version = sound.stacked.versions head (Vacant (t.version + 1)) top_place

  -- what is read there
  pub top_read : {v : ℕ} → version_at slots head ≡ Some v → v ≡ t.version
  top_read read = same_Some _ _ (sym read ∙ ap (option_map (λ s. s.version)) t.there)

  pub top_next : next_at slots head ≡ Some t.next
  top_next = ap (option_and_then (λ s. next_of s.usage)) t.there

  free_indices-top : free_indices slots free head ≡ head ∷ t.rest
  free_indices-top = free_indices-stack sound ∙ t.whole

  pub offer-top : offer (places_of slots) (free_indices slots free head) ≡ key head (t.version + 1)
  offer-top = ap (offer (places_of slots)) free_indices-top ∙ ap (λ p. key head (vacant_version p)) top_place

  pub filled_top : (w : P) → Written slots head (full (t.version + 1) w) t.rest t.next (free - 1) (count + 1)
  filled_top w =
      written sound head (empty t.version (Free t.next)) (full (t.version + 1) w) t.there t.rest t.next (free - 1) (count + 1)
      (IsSlot-full (t.version + 1) w top_version.1)
      (IsFreeList-set slots head (full (t.version + 1) w) t.rest t.next top_stacked.once.0 t.linked)
      (omega (arith, sound.counted, ap length t.whole)) (λ n is. omega arith)
      (IsStacked-filled (places_of slots) head t.rest (t.version + 1) w top_stacked top_place)

  pub inserts-filled : (w : P) (c : ℕ) → used_places (places_of slots) < most
      → Inserts (content_of_places (map_of slots head free c)) (offer (places_of slots) (free_indices slots free head)) w
      (content_of_places (map_of (set slots head (full (t.version + 1) w)) t.next (free - 1) c))
  inserts-filled w c below =
      let after = (filled_top w).map_is c ∙ sym (ap (λ vs. inserted (record { places = places_of slots; vacant = vs; capacity = c }) (offer (places_of slots) vs) w) free_indices-top
      ∙ ap (λ p. record { places = set (places_of slots) head (Live (vacant_version p) w); vacant = t.rest; capacity = c }) top_place) in
      grind (arith, inserts (places_of slots) (free_indices slots free head) c c (offer (places_of slots) (free_indices slots free head)) w (stacked_free sound) below refl (omega arith))

-- what the code reads of a key that may be detached
module _ {P : Type 0} {slots : List (Slot P)} {head free count : ℕ} (sound : IsSound slots head free count) (k : Key) where
  -- the slot of a detached key
  pub record PresentDetached : Type 0 where
    pub own_version : ℕ
    pub there : slice_get slots k.index ≡ Some (empty own_version Detached)
    pub before : version_before own_version ≡ k.version

  pub present_detached : set.contains (detached (places_of slots)) k ≡ true → PresentDetached
  present_detached holds =
      let there = kept_at (places_of slots) k holds in
      let within = slice_get_within (places_of slots) k.index (DetachedPlace k.version) there in
      let s = found_within slots k.index (omega (arith, length-map slots place_of)) in
      let place : place_of s.0 ≡ DetachedPlace k.version = same_Some _ _ (sym (place_at slots k.index s.0 s.1) ∙ there) in
      let parts : (s.0.usage ≡ Detached) × (version_before s.0.version ≡ k.version) = grind arith in
      record { own_version = s.0.version; there = s.1 ∙ ap Some (is_empty s.0 Detached (sound.each k.index s.0 s.1) parts.0 (λ e. absurd (cc))); before = parts.1 }

  pub detached-past : version_at slots k.index ≡ None → set.contains (detached (places_of slots)) k ≡ false
  detached-past past = false_of _ (λ holds. let found = ap (option_map (λ s. s.version)) (present_detached holds).there in absurd (cc))

  detached-read : (u : ℕ) → version_at slots k.index ≡ Some u → usage_at slots k.index ≡ Some Detached → (version_before u == k.version) ≡ set.contains (detached (places_of slots)) k
  detached-read u found linked =
      grind (arith, contains-detached (places_of slots) k, place_at slots k.index (slot_at slots k.index u found).0 (slot_at slots k.index u found).1, slot_at slots k.index u found)

  pub detached-stale : (u : ℕ) → version_at slots k.index ≡ Some u → version_before u ≢ k.version → set.contains (detached (places_of slots)) k ≡ false
  detached-stale u found other =
      false_of _ (λ holds. let there = present_detached holds in other (ap version_before (same_Some _ _ (sym found ∙ ap (option_map (λ s. s.version)) there.there)) ∙ there.before))

  pub detached-at : (u : ℕ) → version_at slots k.index ≡ Some u → version_before u ≡ k.version
      → (r : Bool) → IsTrue r ↔ usage_at slots k.index ≡ Some Detached → r ≡ set.contains (detached (places_of slots)) k
  detached-at u found before true is = sym (eq-eqb _ _ before) ∙ detached-read u found (is.0 refl)
  detached-at u found before false is = sym (false_of _ (λ holds. let same = is.1 (ap (option_map (λ s. s.usage)) (present_detached holds).there) in absurd (cc)))
