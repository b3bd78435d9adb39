-- The list that a map is written as: from its places, that it is accepted, and what is read from it.
-- For the crates of maps.
use Rattle.std.proofs.Common.{◌≡◌, ◌≢◌, ◌⊎◌, inl, inr, ◌+◌, ◌-◌, ◌%◌, ◌<◌, ◌≤◌, sym, ap, ◌∙◌, arith, eq-eqb, refl, ℕ, Bool, true, false, List, length}
use Rattle.std.proofs.lemmas.List.{length-map, same_lists}
use Rattle.std.proofs.lemmas.Option.{slice_get-map, slice_get_within, slice_get-get_or}
use Rattle.slotmap_core.specs.Words.{last_version, next_version, IsDetached, IsVacant, start_live, StartsFrom, retired_entry, content_of_places, following_version, filled_slot, empty_slot, records_of}
use Rattle.slotmap_core.specs.Words.{is_last, Content, IsContent, IsRetired, places, Detached, Retired, detached, Accepts, StackMap, IsStacked, Restores, record_of, read_slots, slice_get, is_some}
use Rattle.slotmap_core.specs.Words.{Key, IsKey, Uses, Place, Live, Vacant, live, next, Writes, Some, get_or}
use Rattle.slotmap_core.specs.declared.serial.SlotRecord.{SlotRecord}
use Rattle.slotmap_core.specs.Places.{retired}
use Rattle.slotmap_core.proofs.FromList.AtKeysLemmas.{gathers, live_in, in_contents, next_in, in_start_next, retired_in, in_start_retired}
use Rattle.slotmap_core.proofs.General.KeyLemmas.{exact_keys, keys_total, nat_tests}
use Rattle.slotmap_core.proofs.Places.PlacesLemmas.{key, get-live, get-live_at, get-next_at, vacant_at, retired_at, contains-detached, total, retired_fits}
use Rattle.slotmap_core.proofs.Contents.ContentLemmas.{some_is}
use Rattle.slotmap_core.proofs.General.MapLaws.{detached_laws, is_marked}
use Rattle.slotmap_core.proofs.FromList.StartLemmas.{consistent_at}
use Rattle.std.specs.FinMap as map
use Rattle.std.specs.FinSet as set

module _ {V : Type 0} where
  -- the last key of a retired place is retired
  retired_there : (ps : List (Place V)) (i : ℕ) → slice_get ps i ≡ Some Retired → set.contains (retired ps) (key i last_version) ≡ true
  unfolding retired
  retired_there ps i found = sym (is_marked _) ∙ ap is_some (gathers detached_laws (λ k. k.index) retired_entry retired_fits ps (key i last_version) tt Retired found refl)

-- the slots that places are written as, in a map with the content of those places
module _ {V : Type 0} (ps : List (Place V)) (c : Content V) (is_live : c.live ≡ live ps) (is_detached : c.detached ≡ detached ps)
    (is_retired : c.retired ≡ retired ps) (is_next : c.next ≡ next ps) (sentinel : slice_get ps 0 ≡ Some (Vacant 1)) where
  places_of : places c + 1 ≡ length ps
  places_of = omega (arith, total ps 1 sentinel, ap map.len is_live, ap set.len is_detached, ap set.len is_retired, ap map.len is_next)

  -- each place from 1 on is vacant or has a key
  one_of : (i : ℕ) (p : Place V) → 1 ≤ i → slice_get ps i ≡ Some p → IsVacant c i ⊎ ((k : Key) × (k.index ≡ i) × Uses c k)
  one_of i (Live version v) positive found = inr (key i version, refl, inl (inl (rw is_live (ap is_some (get-live_at ps (key i version) i v refl found)))))
  one_of i (Detached version) positive found = inr (key i version, refl, inl (inr (rw (is_detached, contains-detached, found) (eq-eqb version version refl))))
  one_of i (Vacant n) positive found = inl (rw is_next (ap is_some (get-next_at ps i n positive found)))
  one_of i Retired positive found = inr (key i last_version, refl, inr (rw is_retired (retired_there ps i found)))

  pub writes-places : Writes c (records_of ps)
  writes-places = record {
    all = omega (arith, length-map ps record_of, places_of);
    first = grind (arith, slice_get-map record_of ps 0);
    live = λ k v got. grind (arith, nat_tests, get-live ps k, slice_get-map record_of ps k.index);
    vacant = λ i n got. grind (arith, vacant_at ps i n, slice_get-map record_of ps i);
    detached = λ k is. grind (arith, nat_tests, contains-detached ps k, slice_get-map record_of ps k.index);
    retired = λ k is. grind (arith, retired_at ps k, slice_get-map record_of ps k.index);
    each = λ i positive within. one_of i (get_or ps i Retired) positive (slice_get-get_or ps i Retired (omega (arith, places_of)));
  }

-- the same for a map with a stack
pub writes-stack : {V : Type 0} (m : StackMap V) → IsStacked m.places m.vacant → Writes (content_of_places m) (records_of m.places)
writes-stack m stacked = writes-places m.places (content_of_places m) refl refl refl refl stacked.sentinel

module _ {V : Type 0} (reuses : Bool) (c : Content V) (valid : IsContent reuses c) (slots : List (SlotRecord V)) (writes : Writes c slots) where
  -- what a slot from 1 on is the slot of: a live, a detached, a retired or a vacant place
  abbrev Stands : ℕ → SlotRecord V → Type 0
  Stands i slot =
      ((version : ℕ) × (v : V) × (map.get c.live (key i version) ≡ Some v) × (slot ≡ filled_slot version v) × IsKey (key i version))
      ⊎ ((version : ℕ) × IsDetached c (key i version) × (slot ≡ empty_slot (following_version version)) × IsKey (key i version))
      ⊎ (IsRetired c (key i last_version) × (slot ≡ empty_slot 0))
      ⊎ ((n : ℕ) × (map.get c.next i ≡ Some n) × (slot ≡ empty_slot (n - 1)) × (1 < n) × (n % 2 ≡ 1))

  stands_for : (i : ℕ) (slot : SlotRecord V) → slice_get slots i ≡ Some slot → ((i ≡ 0) × (slot ≡ empty_slot 0)) ⊎ ((0 < i) × Stands i slot)
  stands_for i slot found = grind (arith, slice_get_within, some_is, nat_tests)

  -- such a list is accepted, if it is short enough
  pub written-accepted : (limit : ℕ) → length slots < limit → Accepts slots limit
  written-accepted limit short = grind (arith, stands_for)

  live_stays : (k : Key) (v : V) → map.get (start_live slots) k ≡ Some v → map.get c.live k ≡ Some v
  live_stays k v got = grind (arith, live_in slots k v got, stands_for)

  live_returns : (k : Key) (v : V) → map.get c.live k ≡ Some v → map.get (start_live slots) k ≡ Some v
  live_returns k v got = in_contents slots k.index (filled_slot k.version v) v (writes.live k v got) (valid.keys k (inl (inl (ap is_some got)))).odd refl

  -- its contents are the live keys with their values
  pub written-contents : start_live slots ≡ c.live
  written-contents = map.same_map keys_total exact_keys (start_live slots) c.live (λ k. grind (arith, live_stays k, live_returns k))

  module _ (read : Content V) (starts : StartsFrom slots read) where
    where_next : (i v : ℕ) → (map.get c.next i ≡ Some v) ⊎ ((k : Key) × IsDetached c k × (is_last k ≡ false) × (k.index ≡ i) × (next_version k ≡ v))
        → map.get read.next i ≡ Some v
    where_next i v (inl got) = rw starts.next (grind (arith, in_start_next slots i _ (writes.vacant i v got), valid.vacant i (ap is_some got), valid.had_keys i v got, valid.vacancies i v got))
    where_next i v (inr (k, is, other, here, follows)) =
        let uses : Uses c k = inl (inr is) in rw (starts.next, ← here) (grind (arith, nat_tests, in_start_next slots k.index _ (writes.detached k is), valid.within k uses, valid.keys k uses))

    -- a map that is read from such a list has the same live keys, and the detached ones are gone
    pub written-restores : Restores c read
    written-restores = record {
      live = starts.live ∙ written-contents;
      detached = starts.detached;
      retired = λ k. (λ is. grind (arith, retired_in, stands_for, nat_tests), λ there. grind (arith, nat_tests, in_start_retired));
      next = λ i v. (λ is. grind (arith, key i (v - 2), next_in slots i v, stands_for i), where_next i v);
      same_places = omega (arith, starts.places, writes.all);
    }

-- a map that was read from a list is written as that list again, except for the first version
module _ {V : Type 0} (slots : List (SlotRecord V)) (limit : ℕ) (accepted : Accepts slots limit) (read : Content V) (starts : StartsFrom slots read)
    (again : List (SlotRecord V)) (writes : Writes read again) where
  slot_again : (i : ℕ) (slot : SlotRecord V) → 0 < i → slice_get slots i ≡ Some slot → slice_get again i ≡ Some slot
  slot_again i slot positive found =
      let consistent = consistent_at slots limit accepted i slot found in
      let live = λ (v : V) (odd : slot.version % 2 ≡ 1) (valued : slot.value ≡ Some v). writes.live (key i slot.version) v (rw starts.live (in_contents slots i slot v found odd valued)) in
      let retired = λ (version_zero : slot.version ≡ 0). writes.retired (key i last_version) (rw starts.retired (in_start_retired slots i slot found positive version_zero)) in
      let vacant = λ (even : slot.version % 2 ≡ 0) (other : slot.version ≢ 0). writes.vacant i (slot.version + 1) (rw starts.next (in_start_next slots i slot found positive even other)) in
      grind (arith, live, retired, vacant)

  pub written-again : again ≡ read_slots slots
  written-again =
      same_lists again (read_slots slots) (grind (arith, accepted.first_empty)) (λ i d within. grind (arith, slot_again i, slice_get-get_or again i d, slice_get-get_or (read_slots slots) i d))
