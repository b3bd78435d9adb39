-- The keys of a content by their indices, and lists of keys by those of indices.
use Rattle.std.specs.Prelude.{◌≡◌, ℕ, ◌<◌, ◌≤◌, true, Option, List, map as list_map, unwrap_or, nat_eq}
use Rattle.std.specs.List.{find}
use Rattle.std.specs.FinMap as map
use Rattle.slotmap.specs.Words.{Key, key_cmp, null_key, Content, IsLive}
use Rattle.slotmap_bounded.specs.Bounded.{bound}
use Rattle.slotmap_links.specs.Lists.{times}

module _ {T : Type 0} where
  -- the key with an index, if there is one
  abbrev pub found_at : map.FinMap key_cmp T → ℕ → Option Key
  found_at live i = find (λ k. nat_eq k.index i) (map.keys live)

  abbrev pub key_at : map.FinMap key_cmp T → ℕ → Key
  key_at live i = unwrap_or (found_at live i) null_key

  abbrev pub keys_at : map.FinMap key_cmp T → List ℕ → List Key
  keys_at live is = list_map (key_at live) is

  -- a live key has this index
  abbrev pub HasKey : Content T → ℕ → Type 0
  HasKey c i = (k : Key) × IsLive c k × (k.index ≡ i)

  -- each of these is the index of a live key
  pub record AreIndices (c : Content T) (is : List ℕ) : Type 0 where
    pub have : (i : ℕ) → 0 < times i is → HasKey c i

  -- no two live keys have one index
  abbrev pub AreApart : map.FinMap key_cmp T → Type 0
  AreApart m = (a b : Key) → map.contains_key m a ≡ true → map.contains_key m b ≡ true → a.index ≡ b.index → a ≡ b

  -- the indices of the keys are within the bound, and each key has its own
  pub record HaveIndices (c : Content T) : Type 0 where
    pub within : (k : Key) → IsLive c k → (1 ≤ k.index) × (k.index ≤ bound c)
    pub apart : AreApart c.live
