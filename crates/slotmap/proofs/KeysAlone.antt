-- A content, and the same without its values: the same keys are live, and the same are spent.
use Rattle.std.specs.FinMap as map
use Rattle.std.specs.FinSet as set
use Rattle.std.proofs.Common.{◌≡◌, ◌&&◌, ◌+◌, ◌∷◌, is_lt, T, List, [], length, map as list_map, is_some, refl, sym, ap, ◌∙◌, subst, inl, inr, arith}
use Rattle.slotmap_core.proofs.Common.{eq_by_cmp, list_any, below_all, is_sorted, is_some-find, length-map}
use Rattle.slotmap.specs.KeysAlone.{keys_of, without_values}
use Rattle.slotmap.specs.Words.{Key, key_cmp, Content, IsSpent, KeepsSpent, places}

module _ {V : Type 0} where
  abbrev key_alone : Key × V → Key × Unit {0}
  key_alone e = (e.0, tt)

  below-alone : (k : Key) (es : List (Key × V)) → below_all key_cmp k (list_map key_alone es) ≡ below_all key_cmp k es
  below-alone k [] = refl
  below-alone k (e ∷ es) = ap (λ b. is_lt (key_cmp k e.0) && b) (below-alone k es)

  sorted-alone : (es : List (Key × V)) → is_sorted key_cmp (list_map key_alone es) ≡ is_sorted key_cmp es
  sorted-alone [] = refl
  sorted-alone (e ∷ es) = ap (λ b. b && is_sorted key_cmp (list_map key_alone es)) (below-alone e.0 es) ∙ ap (λ b. below_all key_cmp e.0 es && b) (sorted-alone es)

  same_keys_alone : (es : List (Key × V)) → list_map (λ (e : Key × Unit {0}). e.0) (list_map key_alone es) ≡ list_map (λ (e : Key × V). e.0) es
  same_keys_alone [] = refl
  same_keys_alone (e ∷ es) = ap (λ ks. e.0 ∷ ks) (same_keys_alone es)

  module _ (m : map.FinMap key_cmp V) where
    sorted : T (is_sorted key_cmp (list_map key_alone (map.entries m)))
    sorted = subst T (sym (sorted-alone (map.entries m))) (map.entries_sorted m)

    -- the same keys are in both maps
    pub contains-keys_of : (k : Key) → map.contains_key (keys_of m) k ≡ map.contains_key m k
    unfolding keys_of
    contains-keys_of k =
        let alone = list_map key_alone (map.entries m) in
        ap is_some (map.get-from_sorted key_cmp alone k sorted)
        ∙ is_some-find key_cmp k alone
        ∙ ap (list_any (eq_by_cmp key_cmp k)) (same_keys_alone (map.entries m))
        ∙ sym (is_some-find key_cmp k (map.entries m))
        ∙ ap is_some (sym (map.get-entries m k))

    -- and as many
    pub len-keys_of : map.len (keys_of m) ≡ map.len m
    unfolding keys_of
    len-keys_of =
        map.len-entries (map.from_sorted (list_map key_alone (map.entries m)))
        ∙ ap length (map.entries-from_sorted key_cmp (list_map key_alone (map.entries m)) sorted)
        ∙ length-map (map.entries m) key_alone
        ∙ sym (map.len-entries m)

  module _ (c : Content V) where
    same_places : places (without_values c) ≡ places c
    same_places = ap (λ n. n + set.len c.detached + set.len c.retired + map.len c.next) (len-keys_of c.live)

    -- a key is spent without the values exactly where it is spent with them
    pub spent_alone : (k : Key) → IsSpent c k → IsSpent (without_values c) k
    spent_alone k spent = record {
      within = omega (arith, same_places, spent.within);
      vacant = spent.vacant;
      stands = λ u there at. spent.stands u (elim there [ inl h ↦ inl (sym (contains-keys_of c.live u) ∙ h) | inr h ↦ inr h ]) at;
    }

    pub alone_spent : (k : Key) → IsSpent (without_values c) k → IsSpent c k
    alone_spent k spent = record {
      within = omega (arith, same_places, spent.within);
      vacant = spent.vacant;
      stands = λ u there at. spent.stands u (elim there [ inl h ↦ inl (contains-keys_of c.live u ∙ h) | inr h ↦ inr h ]) at;
    }

  pub keeps_spent_alone : (old new : Content V) → KeepsSpent old new → KeepsSpent (without_values old) (without_values new)
  keeps_spent_alone old new keeps k spent = spent_alone new k (keeps k (alone_spent old k spent))
