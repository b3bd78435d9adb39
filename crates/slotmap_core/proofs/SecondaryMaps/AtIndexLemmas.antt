-- What is at the index of a key in a secondary map, what a change leaves there, and that only keys are in it.
-- For the crates of maps, runs and callers.
use Rattle.std.proofs.Common.{◌≡◌, ◌≢◌, ◌+◌, ◌-◌, ◌^◌, ◌<◌, eqb-true, eq-eqb, if◌then◌else◌, sym, ap, ◌∙◌, inl, inr, arith, ℕ, true, false, nat_eq, Option}
use Rattle.std.proofs.lemmas.{Grind.common_steps, Option.same_Some}
use Rattle.std.proofs.lemmas.Map.Lookups.{exact_unsigned}
use Rattle.slotmap_core.specs.Words.{nat_cmp_total, IsKey, null_key, is_older, is_null, no_entry, occupied, vacant, entry_at, value_at, has_entry, contains_key, remove, IsSecondary, is_some, nat_cmp}
use Rattle.slotmap_core.specs.Words.{Key, Pairs, entry, get, bind, put, Some, None, refl}
use Rattle.slotmap_core.proofs.General.Maps.{false_of, none_of, some_is, get_other, get_left, get_removed, get_after_insert, get_after_remove, insert_same, insert_twice, remove_inserted, len_removed}
use Rattle.slotmap_core.proofs.SecondaryMaps.SecondaryLemmas.{not_null, get_bound}
use Rattle.std.specs.FinMap as map

pub IsSecondary-empty : {V : Type 0} → IsSecondary {V = V} map.empty
IsSecondary-empty {V} i p h = let none = map.get-empty {X = ℕ × V} nat_cmp i in absurd (cc)

less_of_not_null : (i : ℕ) → i < 2 ^ 32 → nat_eq i (2 ^ 32 - 1) ≡ false → i < 2 ^ 32 - 1
less_of_not_null i fits other = grind (arith, common_steps)

module _ {V : Type 0} where
  -- a version that finds a value is the one that is there
  pair_found : (version : ℕ) (o : Option (ℕ × V)) (v : V) → value_at version o ≡ Some v → o ≡ Some (version, v)
  pair_found version o v h = grind arith

  -- so another version finds nothing there
  other_version : (o : Option (ℕ × V)) (v w : ℕ) → v ≢ w → is_some (value_at v o) ≡ true → value_at w o ≡ None
  other_version o v w other h = grind arith

  module _ (m : Pairs V) (k : Key) where
    pub entry_absent : is_null k ≡ false → map.get m k.index ≡ None → entry m k ≡ vacant
    entry_absent key none = grind arith

    -- if p is at the index of k
    module _ (p : ℕ × V) (stands : map.get m k.index ≡ Some p) where
      pub get_here : nat_eq p.0 k.version ≡ true → get m k ≡ Some p.1
      get_here same = ap (value_at k.version) stands ∙ ap (λ b. if b then Some p.1 else None) same

      entry_by : is_null k ≡ false → entry m k ≡ (if nat_eq p.0 k.version then occupied p.1 else (if is_older k.version p.0 then no_entry else vacant))
      entry_by key = grind arith

      pub entry_here : is_null k ≡ false → nat_eq p.0 k.version ≡ true → entry m k ≡ occupied p.1
      entry_here key same = entry_by key ∙ ap (λ b. if b then occupied p.1 else (if is_older k.version p.0 then no_entry else vacant)) same

      pub entry_other : is_null k ≡ false → nat_eq p.0 k.version ≡ false → entry m k ≡ (if is_older k.version p.0 then no_entry else vacant)
      entry_other key other = entry_by key ∙ ap (λ b. if b then occupied p.1 else (if is_older k.version p.0 then no_entry else vacant)) other

      -- then k isn't null
      pub not_null_at : IsSecondary m → is_null k ≡ false
      not_null_at valid = false_of (is_null k) (λ null. let at = eqb-true k.index null_key.index null in omega (arith, (valid k.index p stands).1))

      -- a put there
      pub put_at : (v : V) → is_null k ≡ false → map.insert m k.index (if has_entry (entry_at k.version (Some p)) then (k.version, v) else p) ≡ put m k v
      put_at v key = grind (arith, insert_same nat_cmp_total exact_unsigned m k.index p stands, entry_by key)

    pub IsSecondary-bind : (v : V) → IsSecondary m → IsKey k → is_null k ≡ false → IsSecondary (bind m k v)
    IsSecondary-bind v valid is key i p h = elim (get_after_insert nat_cmp_total exact_unsigned m k.index (k.version, v) i p h) [
      | inl e ↦ rw (e.0, e.1) (is, less_of_not_null k.index is.index_fits key)
      | inr e ↦ valid i p e.1
    ]

    pub IsSecondary-put : (v : V) → IsSecondary m → IsKey k → IsSecondary (put m k v)
    IsSecondary-put v valid key = elim (has_entry (entry m k)) as (λ b. has_entry (entry m k) ≡ b → IsSecondary (if b then bind m k v else m)) [
      | true ↦ λ has. IsSecondary-bind v valid key (not_null m k has)
      | false ↦ λ has. valid
    ] refl

    pub vacant_not_null : entry m k ≡ vacant → is_null k ≡ false
    vacant_not_null is = not_null m k (ap has_entry is)

    pub removed : map.get (map.remove m k.index) k.index ≡ None
    removed = get_removed nat_cmp_total exact_unsigned m k.index

    -- a removed key finds nothing
    pub removed_gone : get (remove m k) k ≡ None
    removed_gone = grind (arith, removed, none_of (get m k))

    pub in_own : (v : V) → contains_key (bind m k v) k ≡ true
    in_own v = ap is_some (get_bound m k v)

    pub bind_twice : (v w : V) → bind (bind m k v) k w ≡ bind m k w
    bind_twice v w = insert_twice nat_cmp_total exact_unsigned m k.index (k.version, v) (k.version, w)

    module _ (has : contains_key m k ≡ true) where
      -- what is at the index of a key of the map
      pub pair_of : (p : ℕ × V) × (map.get m k.index ≡ Some p)
      pair_of = let found = some_is (get m k) has in ((k.version, found.0), pair_found k.version (map.get m k.index) found.0 found.1)

      pub index_stands : is_some (map.get m k.index) ≡ true
      index_stands = ap is_some pair_of.1

      pub same_version : (p : ℕ × V) → map.get m k.index ≡ Some p → p.0 ≡ k.version
      same_version p at = let found = some_is (get m k) has in ap (λ (q : ℕ × V). q.0) (same_Some _ _ (sym at ∙ pair_found k.version (map.get m k.index) found.0 found.1))

      pub get_stands : (p : ℕ × V) → map.get m k.index ≡ Some p → get m k ≡ Some p.1
      get_stands p at = get_here p at (eq-eqb p.0 k.version (same_version p at))

      pub len_taken : map.len (remove m k) + 1 ≡ map.len m
      len_taken = grind (arith, len_removed, nat_cmp_total, exact_unsigned, index_stands)

      -- if only its index changes, and no other version finds anything there, each other key finds the same as before
      others_find : (n : Pairs V) → ((i : ℕ) → i ≢ k.index → map.get n i ≡ map.get m i) → ((v : ℕ) → k.version ≢ v → value_at v (map.get n k.index) ≡ None)
          → (q : Key) → q ≢ k → get n q ≡ get m q
      others_find n elsewhere here q other = grind arith

      pub others_bound : (v : V) (q : Key) → q ≢ k → get (bind m k v) q ≡ get m q
      others_bound v =
          others_find (bind m k v) (get_other nat_cmp_total exact_unsigned m k.index (k.version, v)) (λ w apart. other_version (map.get (bind m k v) k.index) k.version w apart (in_own v))

    -- each other key finds the same as before
    pub others_stay : (q : Key) → q ≢ k → get (remove m k) q ≡ get m q
    others_stay q other = grind (arith, others_find, get_left, exact_unsigned, removed)

  -- removing a key also removes the value that was just bound to it
  pub without_own : (m : Pairs V) (k : Key) (v : V) → contains_key m k ≡ true → remove (bind m k v) k ≡ remove m k
  without_own m k v has = grind (arith, in_own, remove_inserted, nat_cmp_total, exact_unsigned)

  pub IsSecondary-remove : (m : Pairs V) (i : ℕ) → IsSecondary m → IsSecondary (map.remove m i)
  IsSecondary-remove m i valid j p h = valid j p (get_after_remove nat_cmp_total exact_unsigned m i j p h).1

  -- the value that the key finds once v was bound is v
  pub lent_is : (m n : Pairs V) (k : Key) (v w : V) → n ≡ bind m k v → get n k ≡ Some w → w ≡ v
  lent_is m n k v w is lent = same_Some _ _ (sym lent ∙ ap (λ (x : Pairs V). get x k) is ∙ get_bound m k v)
