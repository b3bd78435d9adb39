-- Finite maps from numbers or keys: what holds after a change held before, or is the change.
-- For the crates of maps, runs and callers.
use Rattle.std.proofs.Common.{◌≡◌, ◌≢◌, ℕ, zero, suc, ◌+◌, ◌≤◌, Option, Some, None, Bool, true, false, not, List, [], ◌∷◌, length, ◌⊎◌, inl, inr, refl, sym}
use Rattle.std.proofs.Common.{◌∙◌, subst, ap, arith, is_some}
use Rattle.std.specs.declared.cmp.Ordering.{Ordering}
use Rattle.slotmap_core.proofs.General.KeyLemmas.{tied, untied, itself, alike_or_apart, IsTotalOrder, CmpEqualImpliesEq}
use Rattle.std.specs.FinMap as map
use Rattle.std.specs.FinSet as set
pub use Rattle.std.proofs.lemmas.Bool.{and_parts as of_and, or_cases as of_or, or_left, or_right, false_from_ne_true as false_of}

pub same_bool : (a b : Bool) → (a ≡ true → b ≡ true) → (b ≡ true → a ≡ true) → a ≡ b
same_bool a b f g = grind arith

pub of_not : (a : Bool) → not a ≡ true → a ≡ true → ⊥
of_not a h g = grind arith

pub not_of : (a : Bool) → (a ≡ true → ⊥) → not a ≡ true
not_of a h = grind arith

pub some_is : {A : Type 0} (o : Option A) → is_some o ≡ true → (x : A) × (o ≡ Some x)
some_is o is = grind arith

pub none_of : {A : Type 0} (o : Option A) → is_some o ≡ false → o ≡ None
none_of o h = grind arith

module _ {K X : Type 0} {R : K → K → Ordering} (total : IsTotalOrder R) (exact : CmpEqualImpliesEq R) where
  pub get_after_insert : (m : map.FinMap R X) (k : K) (v : X) (q : K) (w : X) → map.get (map.insert m k v) q ≡ Some w → ((q ≡ k) × (w ≡ v)) ⊎ ((q ≢ k) × (map.get m q ≡ Some w))
  get_after_insert m k v q w h = grind (arith, map.get-insert total m k v q, tied total exact q k, untied total exact q k)

  pub get_inserted : (m : map.FinMap R X) (k : K) (v : X) → map.get (map.insert m k v) k ≡ Some v
  get_inserted m k v = grind (arith, map.get-insert total m k v k, itself total exact k)

  pub get_removed : (m : map.FinMap R X) (k : K) → map.get (map.remove m k) k ≡ None
  get_removed m k = grind (arith, map.get-remove total m k k, itself total exact k)

  -- other keys find the same as before
  pub get_other : (m : map.FinMap R X) (k : K) (v : X) (q : K) → q ≢ k → map.get (map.insert m k v) q ≡ map.get m q
  get_other m k v q other = grind (arith, map.get-insert total m k v q, tied total exact q k)

  pub get_left : (m : map.FinMap R X) (k q : K) → q ≢ k → map.get (map.remove m k) q ≡ map.get m q
  get_left m k q other = grind (arith, map.get-remove total m k q, tied total exact q k)

  -- maps that agree at one key and at all others are equal
  pub same_at : (m n : map.FinMap R X) (k : K) → map.get m k ≡ map.get n k → ((q : K) → q ≢ k → map.get m q ≡ map.get n q) → m ≡ n
  same_at m n k here elsewhere =
      map.same_map total exact m n (λ q. elim (alike_or_apart total exact q k) [ inl same ↦ subst (λ x. map.get m x ≡ map.get n x) (sym same) here | inr other ↦ elsewhere q other ])

  pub insert_same : (m : map.FinMap R X) (k : K) (v : X) → map.get m k ≡ Some v → map.insert m k v ≡ m
  insert_same m k v found = same_at (map.insert m k v) m k (get_inserted m k v ∙ sym found) (get_other m k v)

  pub insert_twice : (m : map.FinMap R X) (k : K) (v w : X) → map.insert (map.insert m k v) k w ≡ map.insert m k w
  insert_twice m k v w = map.same_map total exact _ _ (λ q. grind (arith, map.get-insert total (map.insert m k v) k w q, map.get-insert total m k v q, map.get-insert total m k w q))

  pub remove_inserted : (m : map.FinMap R X) (k : K) (v : X) → map.remove (map.insert m k v) k ≡ map.remove m k
  remove_inserted m k v = map.same_map total exact _ _ (λ q. grind (arith, map.get-remove total (map.insert m k v) k q, map.get-insert total m k v q, map.get-remove total m k q))

  pub get_after_remove : (m : map.FinMap R X) (k q : K) (w : X) → map.get (map.remove m k) q ≡ Some w → (q ≢ k) × (map.get m q ≡ Some w)
  get_after_remove m k q w h = grind (arith, map.get-remove total m k q, untied total exact q k)

  pub in_after_insert : (m : map.FinMap R X) (k : K) (v : X) (q : K) → map.contains_key (map.insert m k v) q ≡ true → (q ≡ k) ⊎ ((q ≢ k) × (map.contains_key m q ≡ true))
  in_after_insert m k v q h = grind (arith, map.get-insert total m k v q, tied total exact q k, untied total exact q k)

  pub in_after_remove : (m : map.FinMap R X) (k q : K) → map.contains_key (map.remove m k) q ≡ true → (q ≢ k) × (map.contains_key m q ≡ true)
  in_after_remove m k q h = grind (arith, map.get-remove total m k q, untied total exact q k)

  pub in_inserted : (m : map.FinMap R X) (k : K) (v : X) → map.contains_key (map.insert m k v) k ≡ true
  in_inserted m k v = ap is_some (get_inserted m k v)

  -- what was there is still there after an insert
  pub still_in : (m : map.FinMap R X) (k : K) (v : X) (q : K) → map.contains_key m q ≡ true → map.contains_key (map.insert m k v) q ≡ true
  still_in m k v q h = grind (arith, map.get-insert total m k v q)

  -- what was there is still there after the removal of another key
  pub left_in : (m : map.FinMap R X) (k q : K) → q ≢ k → map.contains_key m q ≡ true → map.contains_key (map.remove m k) q ≡ true
  left_in m k q other h = grind (arith, map.get-remove total m k q, tied total exact q k)

  pub len_inserted : (m : map.FinMap R X) (k : K) (v : X) → map.contains_key m k ≡ false → map.len (map.insert m k v) ≡ map.len m + 1
  len_inserted m k v h = grind (arith, map.len-insert total m k v)

  pub some_entry : (m : map.FinMap R X) (k : K) → map.contains_key m k ≡ true → 1 ≤ map.len m
  some_entry m k h = grind (arith, map.empty_of_len m, map.get-empty {X = X} R k)

  pub len_removed : (m : map.FinMap R X) (k : K) → map.contains_key m k ≡ true → map.len (map.remove m k) + 1 ≡ map.len m
  len_removed m k h = grind (arith, map.len-remove total m k, some_entry m k h)

module _ {K : Type 0} {R : K → K → Ordering} (total : IsTotalOrder R) (exact : CmpEqualImpliesEq R) where
  pub item_after_insert : (s : set.FinSet R) (k q : K) → set.contains (set.insert s k) q ≡ true → (q ≡ k) ⊎ (set.contains s q ≡ true)
  item_after_insert s k q h = grind (arith, set.contains-insert total s k q, tied total exact q k)

  pub item_inserted : (s : set.FinSet R) (k : K) → set.contains (set.insert s k) k ≡ true
  item_inserted s k = grind (arith, set.contains-insert total s k k, itself total exact k)

  pub item_still : (s : set.FinSet R) (k q : K) → set.contains s q ≡ true → set.contains (set.insert s k) q ≡ true
  item_still s k q h = grind (arith, set.contains-insert total s k q)

  pub item_after_remove : (s : set.FinSet R) (k q : K) → set.contains (set.remove s k) q ≡ true → (q ≢ k) × (set.contains s q ≡ true)
  item_after_remove s k q h = grind (arith, set.contains-remove total s k q, untied total exact q k)

  pub len_item_inserted : (s : set.FinSet R) (k : K) → set.contains s k ≡ false → set.len (set.insert s k) ≡ set.len s + 1
  len_item_inserted s k h = grind (arith, set.len-insert total s k)

  pub len_item_removed : (s : set.FinSet R) (k : K) → set.contains s k ≡ true → set.len (set.remove s k) + 1 ≡ set.len s
  len_item_removed s k h = grind (arith, set.len-remove total s k, set.empty_of_len s, set.contains-empty R k)

module _ {K : Type 0} {R : K → K → Ordering} (total : IsTotalOrder R) (exact : CmpEqualImpliesEq R) where
  no_keys : {X : Type 0} (m : map.FinMap R X) → ((k : K) → map.contains_key m k ≡ false) → map.len m ≡ 0
  no_keys {X} m none = grind (arith, map.same_map total exact m map.empty, map.get-empty, map.len-empty)

  a_key : {X : Type 0} (m : map.FinMap R X) (count : ℕ) → map.len m ≡ count + 1 → (k : K) × (map.contains_key m k ≡ true)
  a_key {X} m count is = by (map.entries m) refl
    where
      by : (es : List (K × X)) → map.entries m ≡ es → (k : K) × (map.contains_key m k ≡ true)
      by [] same = absurd (let len = map.len-entries m in omega (arith, ap length same))
      by (e ∷ es) same = (e.0, ap is_some (map.get-entries m e.0) ∙ ap (λ es. is_some (map.find R e.0 es)) same ∙ (grind (arith, itself total exact e.0)))

  -- maps with the same keys have as many
  pub same_len : {X Y : Type 0} (count : ℕ) (m : map.FinMap R X) (n : map.FinMap R Y) → map.len m ≡ count
      → ((k : K) → map.contains_key m k ≡ map.contains_key n k) → map.len m ≡ map.len n
  same_len zero m n is same = is ∙ sym (no_keys n (λ k. sym (same k) ∙ false_of (map.contains_key m k) (λ there. let some = some_entry total exact m k there in absurd (omega arith))))
  same_len (suc count) m n is same =
      let there = a_key m count (omega (arith, is)) in
      let k = there.0 in
      let both : (q : K) → map.contains_key (map.remove m k) q ≡ map.contains_key (map.remove n k) q = λ q. grind (arith, map.get-remove total m k q, map.get-remove total n k q, same q) in
      let here = len_removed total exact m k there.1 in
      omega (arith, here, len_removed total exact n k (sym (same k) ∙ there.1), same_len count (map.remove m k) (map.remove n k) (omega arith) both)
