-- What is at each of several indices: an edge, and the one after it.
use Rattle.slotmap_graph.proofs.Common.{◌∙◌, ℕ, is_some, option_map, filter_map, cons_option, first_index, first_key, later_indices, first_or, number_after, key_after, AreIndices, HaveIndices}
use Rattle.slotmap_graph.proofs.Common.{true, false, cond, nat_eq, Some, None, Option, List, [], refl, ap, length, suc, key_is, same_at, Key, Content, IsLive, key_at, keys_at}
use Rattle.std.proofs.Common.{◌≡◌, ◌∷◌}
use Rattle.std.specs.FinMap as map

module _ {V : Type 0} {c : Content V} (indices : HaveIndices c) where
  -- as many entries as indices
  abbrev entry : Key → V → Key × V
  entry k v = (k, v)

  abbrev entries_at : List Key → List (Key × V)
  entries_at ks = filter_map (λ k. option_map (entry k) (map.get c.live k)) ks

  one_entry : (k : Key) (rest : List (Key × V)) (o : Option V) → is_some o ≡ true → length (cons_option (option_map (entry k) o) rest) ≡ suc (length rest)
  one_entry k rest None some = absurd (cc)
  one_entry k rest (Some v) some = refl

  pub entries_long : (is : List ℕ) → AreIndices c is → length (entries_at (keys_at c.live is)) ≡ length is
  entries_long [] all = refl
  entries_long (i ∷ is) all = let has = first_index all in let k = key_at c.live i in
      one_entry k (entries_at (keys_at c.live is)) (map.get c.live k) (ap (map.contains_key c.live) (key_is indices i has.0 has.1 has.2) ∙ has.1) ∙ ap suc (entries_long is (later_indices all))

  -- the key after another one, by their indices
  pub after_at : (is : List ℕ) → AreIndices c is → (k : Key) → IsLive c k → key_after k (keys_at c.live is) ≡ option_map (key_at c.live) (number_after k.index is)
  after_at [] all k live = refl
  after_at (i ∷ is) all k live =
      ap (λ b. cond b (first_or (keys_at c.live is) None) (key_after k (keys_at c.live is))) (same_at indices i (first_index all) k live)
      ∙ elim (nat_eq i k.index) as
      (λ b. cond b (first_or (keys_at c.live is) None) (key_after k (keys_at c.live is)) ≡ option_map (key_at c.live) (cond b (first_or is None) (number_after k.index is))) [
        | true ↦ first_key indices is
        | false ↦ after_at is (later_indices all) k live
      ]
