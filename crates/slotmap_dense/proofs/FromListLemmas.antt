-- A list of slots is read into a list of positions and two packed lists.
use Rattle.std.specs.FinMap as map
use Rattle.std.proofs.Common.{◌≡◌, ◌+◌, ◌<◌, ◌≤◌, ◌%◌, ◌∷◌, ◌++◌, map as list_map, ℕ, zero, suc, Bool, true, false, List, [], length, slice_get, Option, None}
use Rattle.slotmap_core.proofs.Common.{vacant_slot, retired_slot, start_retired, RefusesStart, map_push, slice_get-map, slice_get_within, gather-push_put, gather-push_same, found_within, entries_none}
use Rattle.slotmap_core.proofs.Common.{IsContent, start_live, live_slot, start_next, start_stack, ◌∙◌, nat_tests, length_push, length-map, live_laws, list_limit, none_from, live_fits, reads_as}
use Rattle.slotmap_core.proofs.Common.{Key, Content, gather, ReadsAs, Accepts, Some, is_some, refl, sym, ap, arith, some_is, live_in, key}
use Rattle.slotmap_core.specs.declared.serial.SlotRecord.{SlotRecord}
use Rattle.slotmap_core.specs.declared.errors.SlotsError.{SlotsError}
use Rattle.slotmap_core.specs.declared.errors.SlotsError.TheVariants.{TooMany, FirstNotEmpty, Inconsistent, Memory}
use Rattle.slotmap_dense.specs.Packed.{IsPacked, IsSound, live_of, dense_of}
use Rattle.slotmap_dense.proofs.PackedLemmas.{IsPacked-none, IsPacked-push, live-push}
use Rattle.slotmap_dense.proofs.{WellFormed.same_keys, LastKeyLemmas.keys_last}

-- what a list with one more record holds
module _ {V : Type 0} (records : List (SlotRecord V)) (made : SlotRecord V) where
  contents-live : (v : V) → made.value ≡ Some v → made.version % 2 ≡ 1 → start_live (records ++ made ∷ []) ≡ map.insert (start_live records) (key (length records) made.version) v
  unfolding start_live
  contents-live v valued odd = gather-push_put live_laws (λ k. k.index) live_slot live_fits records made (key (length records) made.version, v) (grind (arith, nat_tests))

  contents-none : made.value ≡ None → start_live (records ++ made ∷ []) ≡ start_live records
  unfolding start_live
  contents-none none = gather-push_same live_laws (λ k. k.index) live_slot live_fits records made (grind (arith, nat_tests))

-- the index of a live key is the position of a record
listed_before : {V : Type 0} (records : List (SlotRecord V)) (q : Key) → map.contains_key (start_live records) q ≡ true → q.index < length records
listed_before records q there = grind (arith, some_is, start_live, live_in, slice_get_within)

-- what a record says but for its value
abbrev shape : {V : Type 0} → SlotRecord V → ℕ × Bool
shape s = (s.version, is_some s.value)

-- the records read so far, and what they became: positions at the same indices, and the pairs of the live keys
pub record AreSplit {V : Type 0} (records : List (SlotRecord V)) (positions : List (SlotRecord ℕ)) (keys : List Key) (values : List V) : Type 0 where
  pub alike : list_map shape positions ≡ list_map shape records
  pub packed : IsPacked (start_live positions) keys
  pub lives : live_of keys values ≡ start_live records
  pub same_length : length values ≡ length keys
  pub fewer : length keys ≤ length records
  pub ascending : keys ≡ map.keys (start_live records)

nothing : (V : Type 0) → start_live {V = V} [] ≡ map.empty
unfolding start_live
nothing V = refl

pub AreSplit-start : (V : Type 0) → AreSplit {V = V} [] [] [] []
AreSplit-start V = grind (arith, nothing, IsPacked-none, entries_none)

module _ {V : Type 0} (records : List (SlotRecord V)) (positions : List (SlotRecord ℕ)) (keys : List Key) (values : List V) (split : AreSplit records positions keys values) where
  pub same_places : length positions ≡ length records
  same_places = sym (length-map positions shape) ∙ ap length split.alike ∙ length-map records shape

  -- fewer keys and records were read than the list has, and the list is short
  pub fewer_read : (list : List (SlotRecord V)) (left : ℕ) → length records + left ≡ length list → Accepts list list_limit
      → (length keys < list_limit) × (length positions < list_limit)
  fewer_read list left counted accepted = omega (arith, accepted.short, split.fewer, same_places)

  more : (made : SlotRecord V) (p : SlotRecord ℕ) → shape p ≡ shape made → list_map shape (positions ++ p ∷ []) ≡ list_map shape (records ++ made ∷ [])
  more made p same = grind (arith, map_push shape positions p, map_push shape records made, split.alike)

  -- a record with a value
  pub AreSplit-live : (made : SlotRecord V) (v : V) → made.value ≡ Some v → made.version % 2 ≡ 1 → (n : ℕ) → n ≡ length keys → (k : Key) → k ≡ key (length positions) made.version
      → AreSplit (records ++ made ∷ []) (positions ++ record { value = Some n; version = made.version } ∷ []) (keys ++ k ∷ []) (values ++ v ∷ [])
  AreSplit-live made v valued odd n n_is k k_is =
      let p : SlotRecord ℕ = record { value = Some n; version = made.version } in
      let none : map.get (start_live positions) k ≡ None = none_from (map.get (start_live positions) k) (λ x is.
      let at = live_in positions k x is in absurd (omega (arith, slice_get_within positions k.index at.0 at.1, ap (λ (q : Key). q.index) k_is))) in
      let placed : start_live (positions ++ p ∷ []) ≡ map.insert (start_live positions) k (length keys) = rw (k_is, ← n_is) (contents-live positions p n refl odd) in
      let live : start_live (records ++ made ∷ []) ≡ map.insert (start_live records) k v = rw (k_is, same_places) (contents-live records made v valued odd) in
      record {
        alike = more made p (grind arith);
        packed = rw placed (IsPacked-push (start_live positions) keys split.packed k none);
        lives = rw live (live-push (start_live positions) keys split.packed values split.same_length k v none ∙ ap (λ m. map.insert m k v) split.lives);
        same_length = omega (arith, length_push values v, length_push keys k, split.same_length);
        fewer = omega (arith, length_push keys k, length_push records made, split.fewer);
        ascending = rw (live, keys_last (start_live records) k v (λ q there. rw (k_is, same_places) (listed_before records q there))) (ap (λ ks. ks ++ k ∷ []) split.ascending);
      }

  -- a record without a value
  pub AreSplit-none : (made : SlotRecord V) → made.value ≡ None → AreSplit (records ++ made ∷ []) (positions ++ record { value = None; version = made.version } ∷ []) keys values
  AreSplit-none made none = grind (arith, more, contents-none, length_push)

-- what is collected from two lists that look the same
gather-alike : {V E M : Type 0} (empty : M) (put : M → E → M) (entry : ℕ → SlotRecord V → Option E) (entry_of : ℕ → SlotRecord ℕ → Option E)
    → ((i : ℕ) (a : SlotRecord V) (b : SlotRecord ℕ) → shape b ≡ shape a → entry_of i b ≡ entry i a)
    → (i : ℕ) (xs : List (SlotRecord V)) (ys : List (SlotRecord ℕ)) → list_map shape ys ≡ list_map shape xs → gather empty put entry_of i ys ≡ gather empty put entry i xs
gather-alike empty put entry entry_of alike i [] [] same = refl
gather-alike empty put entry entry_of alike i [] (b ∷ ys) same = absurd (cc)
gather-alike empty put entry entry_of alike i (a ∷ xs) [] same = absurd (cc)
gather-alike empty put entry entry_of alike i (a ∷ xs) (b ∷ ys) same = grind (arith, alike i a b, gather-alike empty put entry entry_of alike (i + 1) xs ys)

module _ {V : Type 0} (records : List (SlotRecord V)) (positions : List (SlotRecord ℕ)) (same : list_map shape positions ≡ list_map shape records) where
  vacant_alike : (i : ℕ) (a : SlotRecord V) (b : SlotRecord ℕ) → shape b ≡ shape a → vacant_slot i b ≡ vacant_slot i a
  vacant_alike zero a b is = refl
  vacant_alike (suc i) a b is = grind arith

  retired_alike : (i : ℕ) (a : SlotRecord V) (b : SlotRecord ℕ) → shape b ≡ shape a → retired_slot i b ≡ retired_slot i a
  retired_alike zero a b is = refl
  retired_alike (suc i) a b is = grind arith

  next_alike : start_next positions ≡ start_next records
  unfolding start_next
  next_alike = gather-alike _ _ vacant_slot vacant_slot vacant_alike 0 records positions same

  spent_alike : start_retired positions ≡ start_retired records
  unfolding start_retired
  spent_alike = gather-alike _ _ retired_slot retired_slot retired_alike 0 records positions same

  pub stack_alike : start_stack positions ≡ start_stack records
  unfolding start_stack
  stack_alike = gather-alike _ _ vacant_slot vacant_slot vacant_alike 0 records positions same

  same_at : (i : ℕ) (p : SlotRecord ℕ) → slice_get positions i ≡ Some p → (r : SlotRecord V) × (slice_get records i ≡ Some r) × (shape p ≡ shape r)
  same_at i p found = grind (arith, slice_get-map shape positions i, slice_get-map shape records i, same)

module _ {V : Type 0} (records : List (SlotRecord V)) (positions : List (SlotRecord ℕ)) (keys : List Key) (values : List V)
    (split : AreSplit records positions keys values) (limit : ℕ) (accepted : Accepts records limit) where
  -- if the records are accepted, the positions are
  accepted-positions : Accepts positions limit
  accepted-positions =
      let places = same_places records positions keys values split in
      let here = found_within positions 0 (omega (arith, places, slice_get_within records 0 accepted.first_empty.0 accepted.first_empty.1)) in
      record {
        short = omega (arith, places, accepted.short);
        first_empty = (here.0, here.1, grind (arith, same_at records positions split.alike 0 here.0 here.1, accepted.first_empty));
        consistent = λ i p within found. grind (arith, same_at records positions split.alike i p found, slice_get_within records i, accepted.consistent i);
      }

  -- so the positions can fail for memory only
  pub refuses-positions : (e : SlotsError) → RefusesStart positions limit e → RefusesStart records limit e
  refuses-positions TooMany refused = absurd (omega (arith, refused, accepted-positions.short))
  refuses-positions FirstNotEmpty refused = absurd (refused.1 accepted-positions.first_empty)
  refuses-positions (Inconsistent i) refused = let here = refused.2.here in absurd (here.2 (accepted-positions.consistent i here.0 (slice_get_within positions i here.0 here.1) here.1))
  refuses-positions Memory refused = accepted

  module _ (slots : Content ℕ) (reads : ReadsAs true positions slots) where
    pub IsSound-split : IsSound slots keys values
    IsSound-split = record { well = reads.valid; packed = rw reads.starts.live split.packed; same_length = split.same_length }

    -- the map is what the records describe
    pub reads-split : (spare : ℕ) → IsContent false (dense_of slots keys values spare).content → ReadsAs false records (dense_of slots keys values spare).content
    reads-split spare valid = reads_as records limit accepted false (dense_of slots keys values spare).content (record {
      live = split.lives;
      detached = reads.starts.detached;
      retired = reads.starts.retired ∙ spent_alike records positions split.alike;
      next = reads.starts.next ∙ next_alike records positions split.alike;
      stack = λ stack is. reads.starts.stack stack is ∙ stack_alike records positions split.alike;
      places = omega (arith, reads.starts.places, same_places records positions keys values split, (same_keys slots keys values IsSound-split).all);
    }) valid
