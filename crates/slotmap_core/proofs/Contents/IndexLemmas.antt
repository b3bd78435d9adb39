-- The part of a map from an index on, which an iteration by ascending index hasn't reached yet.
-- For the crates of maps.
use Rattle.std.proofs.Common.{◌≡◌, ◌≢◌, ℕ, ◌+◌, ◌<◌, ◌≤◌, Bool, true, false, cond, nat_le, None, sym, ap, ◌∙◌, inl, arith, le-leb}
use Rattle.slotmap_core.specs.Words.{Key, key_cmp, NoneBelow, Content, IsContent, IsLive}
use Rattle.slotmap_core.proofs.General.KeyLemmas.{keys_total, exact_keys, tied, itself, nat_tests}
use Rattle.slotmap_core.proofs.General.Maps.{false_of, none_of, in_after_remove}
use Rattle.std.specs.FinMap as map

module _ {V : Type 0} where
  abbrev pub from_index : ℕ → map.FinMap key_cmp V → map.FinMap key_cmp V
  from_index i m = map.retain_keys m (λ k. nat_le i k.index)

  get-from_index : (i : ℕ) (m : map.FinMap key_cmp V) (q : Key) → map.get (from_index i m) q ≡ cond (nat_le i q.index) (map.get m q) None
  get-from_index i m q = map.get-retain_keys m (λ k. nat_le i k.index) q (λ x t. ap (λ k. nat_le i k.index) (sym (exact_keys q x t)))

  -- from the index on, it is the map
  pub get_from : (i : ℕ) (m : map.FinMap key_cmp V) (q : Key) → i ≤ q.index → map.get (from_index i m) q ≡ map.get m q
  get_from i m q above = get-from_index i m q ∙ ap (λ b. cond b (map.get m q) None) (le-leb i q.index above)

  -- what it has is in the map, from the index on
  pub in_from : (i : ℕ) (m : map.FinMap key_cmp V) (q : Key) → map.contains_key (from_index i m) q ≡ true → (i ≤ q.index) × (map.contains_key m q ≡ true)
  in_from i m q there = grind (arith, nat_tests, get-from_index i m q)

  pub from_index-start : (m : map.FinMap key_cmp V) → from_index 0 m ≡ m
  from_index-start m = map.same_map keys_total exact_keys _ _ (λ q. get_from 0 m q (omega arith))

  -- the part from an index on is the part from the next key on
  pub from_index-jump : (i j : ℕ) (m : map.FinMap key_cmp V) → i ≤ j → ((q : Key) → map.contains_key m q ≡ true → i ≤ q.index → j ≤ q.index) → from_index j m ≡ from_index i m
  from_index-jump i j m on none = map.same_map keys_total exact_keys _ _ (λ q. grind (arith, nat_tests, get-from_index j m q, get-from_index i m q, none q))

  -- past an index with no key the part is the same
  pub from_index-skip : (i : ℕ) (m : map.FinMap key_cmp V) → ((q : Key) → q.index ≡ i → map.contains_key m q ≡ false) → from_index (i + 1) m ≡ from_index i m
  from_index-skip i m none = from_index-jump i (i + 1) m (omega arith) (λ q there from. grind (arith, none q))

  -- past a key's index only that key is missing
  pub from_index-take : (i : ℕ) (m : map.FinMap key_cmp V) (k : Key) → k.index ≡ i → ((q : Key) → map.contains_key m q ≡ true → q.index ≡ i → q ≡ k)
      → from_index (i + 1) m ≡ map.remove (from_index i m) k
  from_index-take i m k at alone = map.same_map keys_total exact_keys _ _ (λ q.
      grind (
        arith,
        nat_tests,
        get-from_index (i + 1) m q,
        map.get-remove keys_total (from_index i m) k q,
        get-from_index i m q,
        tied keys_total exact_keys q k,
        itself keys_total exact_keys k,
        alone q,
      ))

  -- a map is empty if no key is live
  pub none_live : (m : map.FinMap key_cmp V) → ((q : Key) → map.contains_key m q ≡ true → ⊥) → m ≡ map.empty
  none_live m none = map.same_map keys_total exact_keys _ _ (λ q. none_of (map.get m q) (false_of (map.contains_key m q) (none q)) ∙ sym (map.get-empty key_cmp q))

  pub from_index-end : (i : ℕ) (m : map.FinMap key_cmp V) → ((q : Key) → map.contains_key m q ≡ true → q.index < i) → from_index i m ≡ map.empty
  from_index-end i m below = none_live (from_index i m) (λ q there. let both = in_from i m q there in absurd (omega (arith, both.0, below q both.1)))

  -- past a key that was removed
  pub NoneBelow-removed : (m : map.FinMap key_cmp V) (i : ℕ) (k : Key) → ((q : Key) → map.contains_key m q ≡ true → q.index ≡ i → q ≡ k) → NoneBelow m i
      → NoneBelow (map.remove m k) (i + 1)
  NoneBelow-removed m i k alone above = λ q there. let before = in_after_remove keys_total exact_keys m k q there in grind (arith, alone q, above q before.1)

  pub NoneBelow-end : (m : map.FinMap key_cmp V) (i : ℕ) → ((q : Key) → map.contains_key m q ≡ true → q.index < i) → NoneBelow m i → m ≡ map.empty
  NoneBelow-end m i below above = none_live m (λ q there. absurd (omega (arith, below q there, above q there)))

  -- another key than the removed one
  pub get-remove_other : (m : map.FinMap key_cmp V) (k q : Key) → q ≢ k → map.get (map.remove m k) q ≡ map.get m q
  get-remove_other m k q other = grind (arith, map.get-remove keys_total m k q, tied keys_total exact_keys q k)

  -- no two live keys have one index
  pub alone_at : {reuses : Bool} (c : Content V) → IsContent reuses c → (k : Key) (i : ℕ) → IsLive c k → k.index ≡ i → (q : Key) → IsLive c q → q.index ≡ i → q ≡ k
  alone_at c well k i is_live at q live_q at_q = well.apart q k (inl (inl live_q)) (inl (inl is_live)) (at_q ∙ sym at)
