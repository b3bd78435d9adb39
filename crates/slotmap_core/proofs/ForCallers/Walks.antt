-- A loop over a map: the pairs ahead of it, and those that it passed.
-- For callers.
use Rattle.std.proofs.Common.{◌≡◌, List, [], ◌∷◌, Some, ◌⊎◌, inl, arith}
use Rattle.std.proofs.lemmas.List.Elements.{All-head, All-tail}
use Rattle.slotmap_core.specs.Words.{All, Contains, Key, key_cmp, IsListing}
use Rattle.slotmap_core.proofs.General.{KeyLemmas.keys_total, KeyLemmas.exact_keys, ListingLemmas.all_live, ListingLemmas.listed}
use Rattle.std.specs.FinMap as map

module _ {V : Type 0} where
  -- each pair of the map is still ahead, or was passed with this fact
  pub record Walks (m : map.FinMap key_cmp V) (ahead : List (Key × V)) (Passed : Key → V → Type 0) : Type 0 where
    pub all : All (λ e. map.get m e.0 ≡ Some e.1) ahead
    pub each : (k : Key) (v : V) → map.get m k ≡ Some v → Contains ahead (k, v) ⊎ Passed k v

  pub walk_start : (m : map.FinMap key_cmp V) (es : List (Key × V)) (Passed : Key → V → Type 0) → IsListing m es → Walks m es Passed
  walk_start m es Passed listing = record { all = all_live m es listing; each = λ k v found. inl (listed m es k v listing found) }

  module _ (m : map.FinMap key_cmp V) (ahead : List (Key × V)) (Passed : Key → V → Type 0) (walks : Walks m ahead Passed) where
    module _ (k : Key) (v : V) (rest : List (Key × V)) (next : ahead ≡ (k, v) ∷ rest) where
      -- the next pair is one of the map
      pub walk_here : map.get m k ≡ Some v
      walk_here = All-head (λ e. map.get m e.0 ≡ Some e.1) (k, v) rest (rw next at walks.all)

      -- a step: the fact still holds of what was passed, and holds of this pair
      pub walk_step : (After : Key → V → Type 0) → ((q : Key) (x : V) → Passed q x → After q x) → After k v → Walks m rest After
      walk_step After still here = grind (arith, All-tail (λ e. map.get m e.0 ≡ Some e.1) (k, v) rest (rw next at walks.all))

      -- the same if the fact names nothing that the loop changes
      pub walk_next : Passed k v → Walks m rest Passed
      walk_next = walk_step Passed (λ q x past. past)

    -- after the loop each pair was passed
    pub walk_end : ahead ≡ [] → (k : Key) (v : V) → map.get m k ≡ Some v → Passed k v
    walk_end done k v found = grind (arith, walks.each k v found)

  -- a map with no entry
  pub none_found : (m : map.FinMap key_cmp V) → ((k : Key) (v : V) → map.get m k ≡ Some v → ⊥) → m ≡ map.empty
  none_found m none = map.same_map keys_total exact_keys m map.empty (λ k. grind (arith, none k, map.get-empty {X = V} key_cmp k))

pub ruleset walks = (walk_start, walk_here, walk_next, walk_end)
