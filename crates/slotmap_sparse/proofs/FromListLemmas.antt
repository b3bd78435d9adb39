-- How many slots a map is written as, and what a map holds that reads a list slot by slot.
use Rattle.std.specs.FinMap as map
use Rattle.std.specs.FinSet as set
use Rattle.std.proofs.Common.{◌≡◌, ◌+◌, ◌-◌, ◌<◌, ◌≤◌, ◌^◌, ◌⊎◌, ◌∷◌, ◌++◌, arith, ℕ, true, List, [], length, slice_get, None, is_some, eq-eqb, refl}
use Rattle.slotmap_core.proofs.Common.{nat_cmp_total, IsKeyListing, exact_unsigned, slice_get_past, keys_total, contains-keyed, item_after_insert, item_inserted, slice_get_push, slice_get_push_other}
use Rattle.slotmap_core.proofs.Common.{Key, key_cmp, Pairs, contains_key, keyed, slot_pair, ap, ◌∙◌, exact_keys, tied, untied, get_here, some_is, item_still}
use Rattle.slotmap_core.specs.declared.serial.SlotRecord.{SlotRecord}
use Rattle.slotmap_sparse.specs.Written.{ReachesLargest, with_slot}

module _ {V : Type 0} where
  -- the keys of the map that aren't in the rest have smaller indices than the count, which is within the limit
  pub record Counts (m : Pairs V) (rest : List Key) (count : ℕ) : Type 0 where
    pub covered : (k : Key) → contains_key m k ≡ true → (k.index < count) ⊎ (set.contains (set.from_list {R = key_cmp} rest) k ≡ true)
    pub there : (k : Key) → set.contains (set.from_list {R = key_cmp} rest) k ≡ true → contains_key m k ≡ true
    pub one : 0 < count
    pub fits : count ≤ 2 ^ 32
    pub last : (count ≡ 1) ⊎ (map.contains_key m (count - 1) ≡ true)

  pub Counts-start : (m : Pairs V) (keys : List Key) → IsKeyListing (keyed m) keys → Counts m keys 1
  Counts-start m keys listing = grind (arith, contains-keyed)

  module _ (m : Pairs V) (k : Key) (rest : List Key) (count : ℕ) (before : Counts m (k ∷ rest) count) where
    later : (more : ℕ) → count ≤ more → k.index < more → (q : Key) → contains_key m q ≡ true → (q.index < more) ⊎ (set.contains (set.from_list {R = key_cmp} rest) q ≡ true)
    later more grows above q has = grind (arith, item_after_insert keys_total)

    still : (q : Key) → set.contains (set.from_list {R = key_cmp} rest) q ≡ true → contains_key m q ≡ true
    still q in_rest = before.there q (item_still keys_total exact_keys (set.from_list rest) k q in_rest)

    pub Counts-less : k.index + 1 ≤ count → Counts m rest count
    Counts-less less = record { covered = later count (omega arith) (omega arith); there = still; one = before.one; fits = before.fits; last = before.last }

    pub Counts-more : (more : ℕ) → more ≡ k.index + 1 → k.index < 2 ^ 32 → count < more → Counts m rest more
    Counts-more more is small grows = grind (arith, later more, still, item_inserted keys_total exact_keys (set.from_list rest))

  pub Counts-end : (m : Pairs V) (count : ℕ) → Counts m [] count → ReachesLargest m count
  Counts-end m count done = record {
    within = λ i has.
        let p = some_is (map.get m i) has in
        let k : Key = record { index = i; version = p.0.0 } in
        grind (arith, done.covered k (ap is_some (get_here m k p.0 p.1 (eq-eqb p.0.0 p.0.0 refl))), set.contains-empty key_cmp k);
    one = done.one;
    last = done.last;
  }

  -- each index has what its record says, as far as they were read
  abbrev pub Read : List (SlotRecord V) → Pairs V → Type 0
  Read slots m = (i : ℕ) → map.get m i ≡ slot_pair (slice_get slots i)

  module _ (slots : List (SlotRecord V)) (m : Pairs V) (read : Read slots m) (slot : SlotRecord V) where
    pub Read-absent : map.get m (length slots) ≡ None
    Read-absent = read (length slots) ∙ ap slot_pair (slice_get_past slots (length slots) (omega arith))

    pub Read-slot : (n : Pairs V) → n ≡ with_slot m (length slots) slot → Read (slots ++ slot ∷ []) n
    Read-slot n put i = grind (
      arith,
      put,
      read i,
      Read-absent,
      slice_get_push slots slot,
      slice_get_push_other slots slot i,
      tied nat_cmp_total exact_unsigned i (length slots),
      untied nat_cmp_total exact_unsigned i (length slots),
      λ (v : V). map.get-insert nat_cmp_total m (length slots) (slot.version, v) i,
    )
