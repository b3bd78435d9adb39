-- Each change of the places and the stack is, on contents, the step of its call.
-- For the crates of maps.
use Rattle.std.proofs.Common.{◌≡◌, ◌≢◌, inl, ◌+◌, ◌<◌, ◌≤◌, ◌∷◌, ◌++◌, set, sym, ap, ◌∙◌, arith, eqb-true, eq-eqb, ℕ, cond, List, [], length, drop}
use Rattle.std.proofs.lemmas.List.{length-set, length_push}
use Rattle.slotmap_core.specs.Words.{last_version, Detaches, Reattaches, Keeps, with_value, Detached, is_detached_at, content_of_places, used_places, vacant_version, detached_at, IsStacked, slice_get}
use Rattle.slotmap_core.specs.Words.{Key, most, Inserts, Removes, left_by, Place, Live, Vacant, live, StackMap, offer, filled, removed, put_at, Some, is_some, refl}
use Rattle.slotmap_core.proofs.Places.PlacesLemmas.{key, live-push, detached-set, detached-push_live, retired-set, retired-push_live, next-push_live, next-remove_past, len-next-set, contains-detached}
use Rattle.slotmap_core.proofs.Places.PlacesLemmas.{vacancy, live-set, next-set, total}
use Rattle.slotmap_core.proofs.Places.StackLemmas.{not_on, not_first, IsStacked-pushed}
use Rattle.slotmap_core.proofs.General.{ListingLemmas.insert-remove, GatherLemmas.slice_get-set_other}

-- how many places no insert can use, after a change of one
taken-set : {V : Type 0} (ps : List (Place V)) (vs : List ℕ) (i : ℕ) (old new : Place V) → IsStacked ps vs → 0 < i → slice_get ps i ≡ Some old
    → used_places (set ps i new) + cond (is_some (vacancy i new)) 1 0 ≡ used_places ps + cond (is_some (vacancy i old)) 1 0
taken-set ps vs i old new stacked positive found = grind (arith, total, slice_get-set_other, len-next-set, length-set)

pub keeps : {V : Type 0} (m : StackMap V) (c : ℕ) → m.capacity ≤ c → Keeps (content_of_places m) (content_of_places (record m { capacity = c }))
keeps m c more = record { live = refl; detached = refl; retired = refl; next = refl; offer = refl; stack = refl; room = omega arith }

-- a change at a place that isn't vacant leaves the offer
offer-kept : {V : Type 0} (ps : List (Place V)) (vs : List ℕ) (i : ℕ) (old new : Place V) → IsStacked ps vs → slice_get ps i ≡ Some old
    → ((n : ℕ) → old ≢ Vacant n) → offer (set ps i new) vs ≡ offer ps vs
offer-kept ps vs i old new stacked found was = grind (arith, key, length-set, slice_get-set_other, not_on)

module _ {V : Type 0} (m : StackMap V) (stacked : IsStacked m.places m.vacant) (k : Key) (x : V) (found : slice_get m.places k.index ≡ Some (Live k.version x)) where
  was_live : (n : ℕ) → Live k.version x ≢ Vacant n
  was_live n e = absurd (cc)

  live_positive : 0 < k.index
  live_positive = not_first m.places m.vacant stacked k.index (Live k.version x) found was_live

  -- where there is memory for all places
  pub removes : length m.places ≤ m.capacity + 1 → Removes (content_of_places m) k (content_of_places (removed m k))
  removes fits = record {
    live = grind (arith, live-set m.places k.index _ (left_by k) found);
    detached = grind (arith, detached-set m.places k.index _ (left_by k) found);
    retired = grind (arith, retired-set m.places k.index _ (left_by k) found, eqb-true k.version last_version);
    next = grind (arith, next-set m.places k.index _ (left_by k) live_positive found);
    stack = refl;
    room = grind (arith, taken-set m.places m.vacant k.index (Live k.version x) (left_by k) stacked live_positive found, total m.places 1 stacked.sentinel, stacked.fits);
  }

  pub detaches : Detaches (content_of_places m) k (content_of_places (detached_at m k))
  detaches = record {
    live = live-set m.places k.index _ (Detached k.version) found;
    detached = detached-set m.places k.index _ (Detached k.version) found;
    retired = retired-set m.places k.index _ (Detached k.version) found;
    next = next-set m.places k.index _ (Detached k.version) live_positive found;
    offer = offer-kept m.places m.vacant k.index _ (Detached k.version) stacked found was_live;
    stack = refl;
    room = omega (arith, taken-set m.places m.vacant k.index (Live k.version x) (Detached k.version) stacked live_positive found);
  }

  pub content-written : (w : V) → content_of_places (put_at m k w) ≡ with_value (content_of_places m) k w
  content-written w =
      let room : (content_of_places (put_at m k w)).room ≡ (content_of_places m).room =
      omega (arith, taken-set m.places m.vacant k.index (Live k.version x) (Live k.version w) stacked live_positive found) in
      λ j. record {
        live = (live-set m.places k.index _ (Live k.version w) found ∙ insert-remove (live m.places) k w) j;
        detached = detached-set m.places k.index _ (Live k.version w) found j;
        retired = retired-set m.places k.index _ (Live k.version w) found j;
        next = next-set m.places k.index _ (Live k.version w) live_positive found j;
        offer = offer-kept m.places m.vacant k.index _ (Live k.version w) stacked found was_live j;
        stack = Some m.vacant;
        room = room j;
        capacity = m.capacity;
      }

module _ {V : Type 0} (m : StackMap V) (stacked : IsStacked m.places m.vacant) (k : Key) (w : V) (found : slice_get m.places k.index ≡ Some (Detached k.version)) where
  pub reattaches : Reattaches (content_of_places m) k w (content_of_places (put_at m k w))
  reattaches = record {
    was_detached = contains-detached m.places k ∙ ap (is_detached_at k.version) found ∙ eq-eqb k.version k.version refl;
    live = live-set m.places k.index _ (Live k.version w) found;
    detached = detached-set m.places k.index _ (Live k.version w) found;
    retired = retired-set m.places k.index _ (Live k.version w) found;
    next = next-set m.places k.index _ (Live k.version w) positive found;
    offer = offer-kept m.places m.vacant k.index _ (Live k.version w) stacked found (λ n e. absurd (cc));
    stack = refl;
    room = omega (arith, taken-set m.places m.vacant k.index (Detached k.version) (Live k.version w) stacked positive found);
  }
    where
      positive : 0 < k.index
      positive = not_first m.places m.vacant stacked k.index (Detached k.version) found (λ n e. absurd (cc))

module _ {V : Type 0} where
  pub inserts : (ps : List (Place V)) (vs : List ℕ) (c d : ℕ) (k : Key) (w : V) → IsStacked ps vs → used_places ps < most → k ≡ offer ps vs → c ≤ d
      → Inserts (content_of_places (record { places = ps; vacant = vs; capacity = c })) k w
      (content_of_places (record { places = filled ps vs (Live k.version w); vacant = drop 1 vs; capacity = d }))
  inserts ps [] c d k w stacked below is more =
      grind (
        arith,
        live-push ps 1 w,
        detached-push_live ps 1 w,
        retired-push_live ps 1 w,
        next-push_live ps 1 w (omega (arith, total ps 1 stacked.sentinel)),
        next-remove_past ps (length ps) (omega arith),
        total ps 1 stacked.sentinel,
        total (ps ++ Live 1 w ∷ []) 1 (IsStacked-pushed ps [] stacked w (omega (arith, total ps 1 stacked.sentinel, stacked.counted))).sentinel,
        length_push ps (Live 1 w),
        IsStacked-pushed ps,
      )
  inserts ps (i ∷ rest) c d k w stacked below is more =
      let at = stacked.listed i (inl refl) in
      let n = at.1.0 in
      let found = at.1.1 in
      let here : k.index ≡ i = ap (λ q. q.index) is in
      let newer : k.version ≡ n = ap (λ q. q.version) is ∙ ap vacant_version found in
      rw (here, newer) (record {
        offered = sym (ap (λ p. key i (vacant_version p)) found);
        below_limit = below;
        live = live-set ps i _ (Live n w) found;
        detached = detached-set ps i _ (Live n w) found;
        retired = retired-set ps i _ (Live n w) found;
        next = next-set ps i _ (Live n w) at.0 found;
        stack = refl;
        room = omega (arith, taken-set ps (i ∷ rest) i (Vacant n) (Live n w) stacked at.0 found);
      })
