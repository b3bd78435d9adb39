-- The entries of a hash map as keys with their values.
use Rattle.std.specs.FinMap as map
use Rattle.std.proofs.Common.{◌≡◌, ◌∷◌, ℕ, true, false, cond, nat_eq, eqb-true, List, [], length, Some, None, refl, sym, ap, ◌∙◌, nat_cmp, arith}
use Rattle.slotmap_core.proofs.Common.{YieldsFirstBy, AllByRecursion, nat_eq_equiv, unsigned_tied, IsKeyListing, IsSecondary, keyed_entry, contains_key, none_past_head, contains-keyed, item_inserted}
use Rattle.slotmap_core.proofs.Common.{IsDistinct, keys_of, Key, key_cmp, IsListing, value_at, length-map, same_Some, lookup-none, lookup_head, keys_total, exact_keys, tie_parts, get-keyed, len-keyed}
use Rattle.slotmap_core.proofs.Common.{find, lookup, Pairs, keyed}
use Rattle.slotmap_sparse.specs.Entries.{pairs_of, IsSound}
use Rattle.slotmap_sparse.specs.Iter.{key_pairs, IsOfKey, AreOfKeys}
use Rattle.slotmap_sparse.proofs.EntriesLemmas.{get-pairs, len-pairs}

module _ {X : Type 0} where
  in_tail : (e : ℕ × X) (es : List (ℕ × X)) → IsDistinct nat_eq (keys_of (e ∷ es)) → (i : ℕ) (p : X) → lookup (nat_eq i) es ≡ Some p → lookup (nat_eq i) (e ∷ es) ≡ Some p
  in_tail e es distinct i p h = grind (arith, lookup-none (nat_eq i) es, none_past_head nat_eq_equiv i e es distinct)

  all_found : (P : ℕ × X → Type 0) (es : List (ℕ × X)) → IsDistinct nat_eq (keys_of es) → ((i : ℕ) (p : X) → lookup (nat_eq i) es ≡ Some p → P (i, p)) → AllByRecursion P es
  unfolding IsDistinct
  all_found P [] distinct each = tt
  all_found P (e ∷ es) distinct each = (each e.0 e.1 (lookup_head (nat_eq e.0) e es (nat_eq_equiv.refl e.0)), all_found P es distinct.1 (λ i p h. each i p (in_tail e es distinct i p h)))

module _ {V : Type 0} where
  pub of_keys : (es : List (ℕ × (ℕ × V))) → IsSound es → AreOfKeys es
  of_keys es sound = all_found IsOfKey es sound.unique (λ i p h. sound.keys i p (get-pairs es i ∙ h))

  -- a key finds nothing in entries that don't have its index
  missed : (k : Key) (es : List (ℕ × (ℕ × V))) → lookup (nat_eq k.index) es ≡ None → find key_cmp k (key_pairs es) ≡ None
  missed k [] h = refl
  missed k (e ∷ es) h = grind (arith, missed k es, tie_parts (nat_cmp k.index e.0) (nat_cmp k.version e.1.0), unsigned_tied k.index e.0)

  -- and otherwise the value at its index, if it is of its version
  find-pairs : (k : Key) (es : List (ℕ × (ℕ × V))) → IsDistinct nat_eq (keys_of es) → find key_cmp k (key_pairs es) ≡ value_at k.version (lookup (nat_eq k.index) es)
  unfolding IsDistinct
  find-pairs k [] distinct = refl
  find-pairs k (e ∷ es) distinct = grind (
    arith,
    find-pairs k es distinct.1,
    tie_parts (nat_cmp k.index e.0) (nat_cmp k.version e.1.0),
    unsigned_tied k.index e.0,
    unsigned_tied k.version e.1.0,
    nat_eq_equiv.symm k.version e.1.0,
    missed k es,
    lookup-none (nat_eq k.index) es,
    none_past_head nat_eq_equiv k.index e es distinct,
  )

  -- the entries list the keys of the map with their values
  pub listing : (es : List (ℕ × (ℕ × V))) (p : Pairs V) → pairs_of es ≡ p → IsDistinct nat_eq (keys_of es) → IsListing (keyed p) (key_pairs es)
  listing es p is unique = record {
    all =
        map.same_map keys_total exact_keys _ _ (λ k. map.get-from_entries keys_total (key_pairs es) k ∙ find-pairs k es unique
        ∙ ap (value_at k.version) (sym (get-pairs es k.index) ∙ ap (λ (x : Pairs V). map.get x k.index) is) ∙ sym (get-keyed p k));
    once = length-map es keyed_entry ∙ sym (len-pairs es unique) ∙ ap (λ (x : Pairs V). map.len x) is ∙ sym (len-keyed p);
  }

  -- the keys of the entries are in the map
  pub valid_from : (es : List (ℕ × (ℕ × V))) → AreOfKeys es → IsSecondary (pairs_of es)
  valid_from es of i p h = at_lookup es of (sym (get-pairs es i) ∙ h)
    where
      at_lookup : (es : List (ℕ × (ℕ × V))) → AreOfKeys es → lookup (nat_eq i) es ≡ Some p → IsOfKey (i, p)
      at_lookup [] of h = absurd (cc)
      at_lookup (e ∷ es) of h = elim (nat_eq i e.0) as (λ b. nat_eq i e.0 ≡ b → cond b (Some e.1) (lookup (nat_eq i) es) ≡ Some p → IsOfKey (i, p)) [
        | true ↦ λ t is. rw (eqb-true i e.0 t, ← same_Some _ _ is) of.0
        | false ↦ λ t is. at_lookup es of.1 is
      ] refl h

  module _ {K : Type 0} (data_of : K → Key) (m : Pairs V) (keys rest : List Key) (listing : IsKeyListing (keyed m) keys) where
    -- the first key of a listing is in the map
    pub listed_key : (key : K) → YieldsFirstBy data_of (λ x. x) keys (Some key) rest → contains_key m (data_of key) ≡ true
    listed_key key steps = grind (arith, contains-keyed, item_inserted keys_total exact_keys)

    -- and if there is none, the map is empty
    pub listed_none : YieldsFirstBy data_of (λ x. x) keys None rest → m ≡ map.empty
    listed_none steps = map.empty_of_len m (sym (len-keyed m) ∙ sym listing.once ∙ ap length steps.0)
