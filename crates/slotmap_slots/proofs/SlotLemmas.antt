-- How each change of one slot keeps the slots sound, and what the places become.
-- For this crate and for the layouts of the maps.
use Rattle.std.specs.FinMap as map
use Rattle.std.proofs.Common.{◌==◌, ◌≡◌, ◌≢◌, ◌+◌, ◌-◌, ◌^◌, ◌<◌, ◌≤◌, ◌%◌, ◌∷◌, ◌++◌, slice_get, option_map, ◌∙◌, length, ⊎_elim, eqb-true}
use Rattle.std.proofs.Common.{Option, subst, arith, nat_eq, [], set, Some, None, refl, sym, ap, inr, true, false, cond, is_some, eq-eqb, zero, ℕ, suc, List}
use Rattle.slotmap_core.specs.Words.{removed}
use Rattle.slotmap_core.proofs.Common.{Removes, Detached as DetachedPlace, Retired as RetiredPlace, content_of_places, slice_get-set_same, slice_get-set_other, slice_get_push_other, IsContent-stacked}
use Rattle.slotmap_core.proofs.Common.{last_version, Detaches, common_steps, used_places, slice_get_within, slice_get-map, found_within, len-live-set, IsStacked-kept, IsStacked-freed, content-written}
use Rattle.slotmap_core.proofs.Common.{IsContent, with_value, Reattaches, live_entry, IsVersion, HasVersion, IsStacked, length-map, false_of, get-live_at, reattaches, same_Some, none_from, same_bool}
use Rattle.slotmap_core.proofs.Common.{IsKey, Live, Vacant, map-set, mapped, at_set, some_is, live_at, not_on, removes, detaches, Key, live, IsOn, key, total}
use Rattle.slotmap_slots.specs.Slot.{Slot, FitsEmpty, version_at, usage_at, payload_at, with_payload, version_before, place_of, places_of, free_indices, IsFreeList, IsSlot, IsSound, Detached, Retired}
use Rattle.slotmap_slots.specs.Slot.{full, empty, Use, map_of, InUse, Free}

-- what an empty slot can have
pub FitsEmpty-free : (v next : ℕ) → v % 2 ≡ 0 → next < 2 ^ 32 - 1 → (v ≡ 0 → next ≡ 0) → FitsEmpty v (Free next)
FitsEmpty-free v next even named first = grind arith

module _ {P : Type 0} where
  -- the slot at an index, by its version
  pub slot_at : (slots : List (Slot P)) (i v : ℕ) → version_at slots i ≡ Some v → (s : Slot P) × (slice_get slots i ≡ Some s) × (s.version ≡ v)
  slot_at slots i v found = mapped (λ s. s.version) (slice_get slots i) v found

  slot_is : (s : Slot P) (v : ℕ) (l : Use) (x : Option P) → s.version ≡ v → s.usage ≡ l → s.payload ≡ x → s ≡ record { version = v; usage = l; payload = x }
  slot_is s v l x same_v same_l same_x = λ j. record { version = same_v j; usage = same_l j; payload = same_x j }

  -- a slot that isn't in use has no payload
  pub is_empty : (s : Slot P) (l : Use) → IsSlot s → s.usage ≡ l → l ≢ InUse → s ≡ empty s.version l
  is_empty s l slot linked other = slot_is s s.version l None refl linked (none_from s.payload (λ x is. other (sym linked ∙ slot.in_use.0 (ap is_some is))))

  pub IsSlot-full : (v : ℕ) (x : P) → v % 2 ≡ 1 → IsSlot (full v x)
  IsSlot-full v x odd = record { odd = (λ _. odd, λ _. refl); in_use = (λ _. refl, λ _. refl); version_zero = λ is. absurd (cc) }

  pub IsSlot-empty : (v : ℕ) (l : Use) → v % 2 ≡ 0 → l ≢ InUse → (l ≡ Retired → v ≡ 0) → IsSlot {P = P} (empty v l)
  IsSlot-empty v l even other version_zero =
      record { odd = (λ some. absurd (cc), λ odd. absurd (omega arith)); in_use = (λ some. absurd (cc), λ is. absurd (other is)); version_zero = version_zero }

  -- the free list starts with the index of a slot
  pub head_within : (slots : List (Slot P)) (is : List ℕ) (head : ℕ) → 0 < length slots → IsFreeList slots is head → head < length slots
  head_within slots [] head some linked = omega arith
  head_within slots (j ∷ js) head some linked = grind (arith, mapped, slice_get_within)

  -- the places
  pub place_at : (slots : List (Slot P)) (i : ℕ) (s : Slot P) → slice_get slots i ≡ Some s → slice_get (places_of slots) i ≡ Some (place_of s)
  place_at slots i s found = slice_get-map place_of slots i ∙ ap (option_map place_of) found

  place-live : (s : Slot P) (v : ℕ) (x : P) → place_of s ≡ Live v x → s ≡ full v x
  place-live s v x is = slot_is s v InUse (Some x) (grind arith) (grind arith) (grind arith)

  -- the free list
  pub IsFreeList-set : (slots : List (Slot P)) (i : ℕ) (s : Slot P) (is : List ℕ) (head : ℕ) → (IsOn is i → ⊥) → IsFreeList slots is head → IsFreeList (set slots i s) is head
  IsFreeList-set slots i s [] head off linked = linked
  IsFreeList-set slots i s (j ∷ js) head off linked = (
    linked.0,
    (
      linked.1.0,
      grind (arith, slice_get-set_other),
      IsFreeList-set slots i s js linked.1.0 (λ on. off (inr on)) linked.1.2,
    ),
  )

  pub IsFreeList-push : (slots : List (Slot P)) (s : Slot P) (is : List ℕ) (head : ℕ) → IsFreeList slots is head → IsFreeList (slots ++ s ∷ []) is head
  IsFreeList-push slots s [] head linked = linked
  IsFreeList-push slots s (j ∷ js) head linked =
      let there = mapped (λ s. s.usage) (slice_get slots j) _ linked.1.1 in
      let within = slice_get_within slots j there.0 there.1 in
      (linked.0, (linked.1.0, ap (option_map (λ s. s.usage)) (slice_get_push_other slots s j (λ e. omega arith)) ∙ linked.1.1, IsFreeList-push slots s js linked.1.0 linked.1.2))

  -- iterating over a free list yields its indices
  free_indices-is : (slots : List (Slot P)) (is : List ℕ) (head : ℕ) → IsFreeList slots is head → free_indices slots (length is) head ≡ is
  free_indices-is slots [] head linked = refl
  free_indices-is slots (j ∷ js) head linked = grind (arith, common_steps, free_indices-is slots js linked.1.0 linked.1.2)

-- the slots are sound once another one is written at an index, and the map has another place and this stack
pub record Written {P : Type 0} (slots : List (Slot P)) (i : ℕ) (t : Slot P) (vacant : List ℕ) (head free count : ℕ) : Type 0 where
  pub sound : IsSound (set slots i t) head free count
  pub map_is : (c : ℕ) → map_of (set slots i t) head free c ≡ record { places = set (places_of slots) i (place_of t); vacant = vacant; capacity = c }

module _ {P : Type 0} {slots : List (Slot P)} {head free count : ℕ} (sound : IsSound slots head free count) where
  pub free_indices-stack : free_indices slots free head ≡ sound.stack
  free_indices-stack = ap (λ n. free_indices slots n head) (sym sound.counted) ∙ free_indices-is slots sound.stack head sound.linked

  pub stacked_free : IsStacked (places_of slots) (free_indices slots free head)
  stacked_free = rw free_indices-stack sound.stacked

  linked_free : IsFreeList slots (free_indices slots free head) head
  linked_free = rw free_indices-stack sound.linked

  length_free : length (free_indices slots free head) ≡ free
  length_free = rw free_indices-stack sound.counted

  pub slots_fit : length slots < 2 ^ 32
  slots_fit = omega (arith, length-map slots place_of, sound.stacked.fits)

  -- the places that no insert can use, the vacant ones and the sentinel are all of them
  pub used_places-slots : used_places (places_of slots) + free + 1 ≡ length slots
  used_places-slots = omega (arith, total (places_of slots) 1 sound.stacked.sentinel, length-map slots place_of, sound.stacked.counted, sound.counted)

  pub head_fits : head < 2 ^ 32 - 1
  head_fits = omega (arith, head_within slots sound.stack head (omega (arith, used_places-slots)) sound.linked, slots_fit)

  -- what the map holds is well formed
  pub valid : (c : ℕ) → length slots ≤ c → IsContent true (content_of_places (map_of slots head free (c - 1)))
  valid c holds = IsContent-stacked (map_of slots head free (c - 1)) stacked_free (omega (arith, length-map slots place_of))

  -- the live and the vacant places and the sentinel are among the slots
  pub free_below : count + free + 1 ≤ length slots
  free_below = omega (arith, used_places-slots, sound.live_counted)

  -- a slot whose version is odd has a payload, and is in use
  pub live_slot : (i v : ℕ) → version_at slots i ≡ Some v → v % 2 ≡ 1 → (x : P) × (slice_get slots i ≡ Some (full v x))
  live_slot i v found odd =
      let all = slot_at slots i v found in
      let slot = sound.each i all.0 all.1 in
      let some = slot.odd.1 (ap (λ v. v % 2) all.2 ∙ odd) in
      let x = some_is all.0.payload some in
      (x.0, all.1 ∙ ap Some (slot_is all.0 v InUse (Some x.0) all.2 (slot.in_use.0 some) x.1))

  -- what a look-up of a key finds
  pub get-live_slot : (k : Key) (x : P) → slice_get slots k.index ≡ Some (full k.version x) → map.get (live (places_of slots)) k ≡ Some x
  get-live_slot k x at = get-live_at (places_of slots) k k.index x refl (place_at slots k.index (full k.version x) at)

  -- the slot of a key that is live
  pub record Present (k : Key) : Type 0 where
    pub value : P
    pub there : slice_get slots k.index ≡ Some (full k.version value)
    pub read : payload_at slots k.index ≡ Some value
    pub odd : k.version % 2 ≡ 1
    pub gives : map.get (live (places_of slots)) k ≡ Some value

  pub present : (k : Key) → map.contains_key (live (places_of slots)) k ≡ true → Present k
  present k holds =
      let place = live_at (places_of slots) k holds in
      let within = slice_get_within (places_of slots) k.index (Live k.version place.0) place.1 in
      let s = found_within slots k.index (omega (arith, length-map slots place_of)) in
      let there = s.1 ∙ ap Some (place-live s.0 k.version place.0 (same_Some _ _ (sym (place_at slots k.index s.0 s.1) ∙ place.1))) in
      grind (arith, sound.each k.index (full k.version place.0) there, get-live_slot k place.0 there)

  pub contains-version : (k : Key) (v : ℕ) → IsKey k → version_at slots k.index ≡ Some v → (v == k.version) ≡ map.contains_key (live (places_of slots)) k
  contains-version k v is found = same_bool _ _
      (λ same. let there = live_slot k.index k.version (found ∙ ap Some (eqb-true v k.version same)) is.odd in ap is_some (get-live_slot k there.0 there.1))
      (λ holds. eq-eqb v k.version (same_Some _ _ (sym found ∙ ap (option_map (λ s. s.version)) (present k holds).there)))

  pub contains-past : (k : Key) → version_at slots k.index ≡ None → map.contains_key (live (places_of slots)) k ≡ false
  contains-past k past = false_of _ (λ holds. let found = ap (option_map (λ s. s.version)) (present k holds).there in absurd (cc))

  -- another slot is written at an index
  pub written : (i : ℕ) (s t : Slot P) → slice_get slots i ≡ Some s → (is : List ℕ) (head2 free2 count2 : ℕ) → IsSlot t → IsFreeList (set slots i t) is head2 → length is ≡ free2
      → ((n : ℕ) → n + cond (is_some (live_entry i (place_of s))) 1 0 ≡ count + cond (is_some (live_entry i (place_of t))) 1 0 → n ≡ count2)
      → IsStacked (set (places_of slots) i (place_of t)) is → Written slots i t is head2 free2 count2
  written i s t at is head2 free2 count2 slot linked counted number stacked = record {
    sound = record {
      each = λ j u there. ⊎_elim (λ same. subst IsSlot same.1 slot) (λ other. sound.each j u other.1) (at_set slots i t s at j u there);
      stack = is;
      linked = linked;
      counted = counted;
      live_counted =
          ap (λ ps. map.len (live ps)) (map-set place_of slots i t) ∙ number _ (rw sound.live_counted at (len-live-set (places_of slots) i (place_of s) (place_of t) (place_at slots i s at)));
      stacked = rw (map-set place_of slots i t) stacked;
    };
    map_is = λ c j. record {
      places = map-set place_of slots i t j;
      vacant = (ap (λ n. free_indices (set slots i t) n head2) (sym counted) ∙ free_indices-is (set slots i t) is head2 linked) j;
      capacity = c;
    };
  }

  module _ (i : ℕ) (s : Slot P) (at : slice_get slots i ≡ Some s) (was : (n : ℕ) → place_of s ≢ Vacant n) where
    off_free : IsOn (free_indices slots free head) i → ⊥
    off_free = not_on (places_of slots) (free_indices slots free head) stacked_free i (place_of s) (place_at slots i s at) was

    -- if neither place is vacant, the stack stays
    kept : (t : Slot P) (count2 : ℕ) → IsSlot t → ((n : ℕ) → place_of t ≢ Vacant n) → HasVersion (place_of t)
        → ((n : ℕ) → n + cond (is_some (live_entry i (place_of s))) 1 0 ≡ count + cond (is_some (live_entry i (place_of t))) 1 0 → n ≡ count2)
        → Written slots i t (free_indices slots free head) head free count2
    kept t count2 slot is good number =
        written i s t at (free_indices slots free head) head free count2 slot (IsFreeList-set slots i t (free_indices slots free head) head off_free linked_free) length_free number
        (IsStacked-kept (places_of slots) (free_indices slots free head) stacked_free i (place_of s) (place_of t) (place_at slots i s at) was is good)

  -- a live slot
  module _ (i v : ℕ) (x : P) (at : slice_get slots i ≡ Some (full v x)) where
    found_live : slice_get (places_of slots) i ≡ Some (Live v x)
    found_live = place_at slots i (full v x) at

    version_is : IsVersion v
    version_is = sound.stacked.versions i (Live v x) found_live

    pub count_positive : 1 ≤ count
    count_positive = omega (arith, len-live-set (places_of slots) i (Live v x) RetiredPlace found_live, sound.live_counted)

    -- it becomes free
    pub freed : nat_eq v last_version ≡ false → Written slots i (empty (v + 1) (Free head)) (i ∷ free_indices slots free head) i (free + 1) (count - 1)
    freed other =
        let good = version_is in
        let fits : v ≢ last_version = λ e. (let yes = eq-eqb v last_version e in absurd (cc)) in
        let linked : usage_at (set slots i (empty (v + 1) (Free head))) i ≡ Some (Free head) = grind (arith, slice_get-set_same, slice_get_within) in
        written i (full v x) (empty (v + 1) (Free head)) at (i ∷ free_indices slots free head) i (free + 1) (count - 1)
        (IsSlot-empty (v + 1) (Free head) (omega arith) (λ e. absurd (cc)) (λ e. absurd (cc)))
        (refl, (head, linked, IsFreeList-set slots i (empty (v + 1) (Free head)) (free_indices slots free head) head (off_free i (full v x) at (λ n e. absurd (cc))) linked_free))
        (omega (arith, length_free)) (λ n is. omega arith)
        (IsStacked-freed (places_of slots) (free_indices slots free head) stacked_free i v (v + 1 + 1) x found_live (omega arith, omega arith) (omega arith))

    pub removes-freed : (other : nat_eq v last_version ≡ false) (c : ℕ) → length slots ≤ c + 1
        → Removes (content_of_places (map_of slots head free c)) (key i v) (content_of_places (map_of (set slots i (empty (v + 1) (Free head))) i (free + 1) c))
    removes-freed other c holds =
        let after : map_of (set slots i (empty (v + 1) (Free head))) i (free + 1) c ≡ removed (map_of slots head free c) (key i v) =
        (freed other).map_is c ∙ rw other (ap (λ n. record { places = set (places_of slots) i (Vacant n); vacant = i ∷ free_indices slots free head; capacity = c }) (omega arith)) in
        subst (λ n. Removes (content_of_places (map_of slots head free c)) (key i v) (content_of_places n)) (sym after)
        (removes (map_of slots head free c) stacked_free (key i v) x found_live (omega (arith, length-map slots place_of, holds)))

    -- or it is retired
    pub retired : nat_eq v last_version ≡ true → Written slots i (empty 0 Retired) (free_indices slots free head) head free (count - 1)
    retired last = kept i (full v x) at (λ n e. absurd (cc)) (empty 0 Retired) (count - 1)
        (IsSlot-empty 0 Retired refl (λ e. absurd (cc)) (λ _. refl)) (λ n e. absurd (cc)) tt (λ n is. omega arith)

    pub removes-retired : (last : nat_eq v last_version ≡ true) (c : ℕ) → length slots ≤ c + 1
        → Removes (content_of_places (map_of slots head free c)) (key i v) (content_of_places (map_of (set slots i (empty 0 Retired)) head free c))
    removes-retired last c holds =
        let after : map_of (set slots i (empty 0 Retired)) head free c ≡ removed (map_of slots head free c) (key i v) = (retired last).map_is c ∙ rw last in
        subst (λ n. Removes (content_of_places (map_of slots head free c)) (key i v) (content_of_places n)) (sym after)
        (removes (map_of slots head free c) stacked_free (key i v) x found_live (omega (arith, length-map slots place_of, holds)))

    -- another payload is written
    pub with_payload-is : (w : P) → with_payload slots i w ≡ set slots i (full v w)
    with_payload-is w = by slots i at
      where
        by : (slots : List (Slot P)) (i : ℕ) → slice_get slots i ≡ Some (full v x) → with_payload slots i w ≡ set slots i (full v w)
        by [] i at = refl
        by (s ∷ ss) zero at = rw (same_Some s (full v x) at)
        by (s ∷ ss) (suc i) at = ap (λ ts. s ∷ ts) (by ss i at)

    pub rewritten : (w : P) → Written slots i (full v w) (free_indices slots free head) head free count
    rewritten w = kept i (full v x) at (λ n e. absurd (cc)) (full v w) count (IsSlot-full v w version_is.1) (λ n e. absurd (cc)) version_is (λ n is. omega arith)

    pub content-rewritten : (w : P) (c : ℕ) → content_of_places (map_of (with_payload slots i w) head free c) ≡ with_value (content_of_places (map_of slots head free c)) (key i v) w
    content-rewritten w c = grind (arith, common_steps, with_payload-is w, (rewritten w).map_is c, content-written (map_of slots head free c) stacked_free (key i v) x found_live w)

    -- the payload is taken out, and the place is kept
    before_after : version_before ((v + 1) % 2 ^ 32) ≡ v
    before_after = omega (arith, version_is.0)

    pub detached : Written slots i (empty ((v + 1) % 2 ^ 32) Detached) (free_indices slots free head) head free (count - 1)
    detached =
        kept i (full v x) at (λ n e. absurd (cc)) (empty ((v + 1) % 2 ^ 32) Detached) (count - 1)
        (IsSlot-empty ((v + 1) % 2 ^ 32) Detached (omega (arith, version_is.1)) (λ e. absurd (cc)) (λ e. absurd (cc)))
        (λ n e. absurd (cc)) (subst IsVersion (sym before_after) version_is) (λ n is. omega arith)

    pub detaches-slots : (c : ℕ) → Detaches (content_of_places (map_of slots head free c)) (key i v) (content_of_places (map_of (set slots i (empty ((v + 1) % 2 ^ 32) Detached)) head free c))
    detaches-slots c = grind (arith, key i v, detached.map_is c, detaches (map_of slots head free c) stacked_free (key i v) x found_live, before_after, stacked_free, found_live)

  -- a detached key is bound to a payload again
  module _ (i u v : ℕ) (at : slice_get slots i ≡ Some (empty u Detached)) (of : version_before u ≡ v) where
    here_kept : slice_get (places_of slots) i ≡ Some (DetachedPlace v)
    here_kept = place_at slots i (empty u Detached) at ∙ ap (λ v. Some (DetachedPlace v)) of

    pub reattached : (w : P) → Written slots i (full v w) (free_indices slots free head) head free (count + 1)
    reattached w =
        let good = sound.stacked.versions i (DetachedPlace v) here_kept in
        kept i (empty u Detached) at (λ n e. absurd (cc)) (full v w) (count + 1) (IsSlot-full v w good.1) (λ n e. absurd (cc)) good (λ n is. omega arith)

    pub reattaches-slots : (w : P) (c : ℕ) → Reattaches (content_of_places (map_of slots head free c)) (key i v) w (content_of_places (map_of (set slots i (full v w)) head free c))
    reattaches-slots w c =
        subst (λ n. Reattaches (content_of_places (map_of slots head free c)) (key i v) w (content_of_places n)) (sym ((reattached w).map_is c))
        (reattaches (map_of slots head free c) stacked_free (key i v) w here_kept)
