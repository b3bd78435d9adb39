-- Loops along keys: what holds of the keys that are ahead, and of those that were passed.
use Rattle.std.proofs.Common.{◌++◌, ◌<◌, ◌∷◌, ◌≡◌, ◌≢◌}
use Rattle.slotmap_scene.proofs.Common.{Key, List, [], ap, append_assoc, arith, false, is_key, list_map, map_push, one_itself, one_other, same_keys, sym, times, times_first, ◌∙◌}

-- keys that a test tells apart
pub unlike : (a b : Key) {x y : Key} → a ≡ x → b ≡ y → false ≡ is_key a b → x ≢ y
unlike a b at_x at_y test same = let is = (same_keys a b).1 (at_x ∙ same ∙ sym at_y) in cc

module _ (it rest : List Key) (k : Key) (is : it ≡ k ∷ rest) where
  -- what holds of each key that is ahead holds of the first one, and of those behind it
  pub first_ahead : (P : Key → Type 0) → ((q : Key) → 0 < times q it → P q) → P k × ((q : Key) → 0 < times q rest → P q)
  first_ahead P all =
      (all k (let t = ap (times k) is ∙ times_first k k rest in let one = one_itself k in omega arith), λ q more. all q (let t = ap (times q) is ∙ times_first q k rest in omega arith))

  -- another key that is ahead is behind the first one
  pub others_ahead : (q : Key) → k ≢ q → 0 < times q it → 0 < times q rest
  others_ahead q other more = let t = ap (times q) is ∙ times_first q k rest in let none = one_other k q other in omega arith

  -- a value is pushed for the first key
  pub passed : {X : Type 0} (f : X → Key) (xs : List X) (x : X) (new : List X) → f x ≡ k → new ≡ xs ++ x ∷ [] → list_map f new ++ rest ≡ list_map f xs ++ it
  passed f xs x new here new_is = grind (arith, list_map, map_push f xs x, append_assoc (list_map f xs) (f x ∷ []) rest, list_map f xs)
