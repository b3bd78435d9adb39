-- The keys below a node, in the order of the trees.
use Rattle.std.specs.Prelude.{◌≡◌, ◌<◌, ◌⊎◌, ℕ, zero, suc, cond, Option, Some, None, IfSome, List, [], ◌∷◌, ◌++◌}
use Rattle.std.specs.FinMap as map
use Rattle.slotmap.specs.Words.{Key}
use Rattle.slotmap_bounded.specs.KeyLists.{is_key, times}
use Rattle.slotmap_scene.specs.Node.{Nodes}
use Rattle.slotmap_scene.specs.Climb.{IsWithin, parent_of}
use Rattle.slotmap_scene.specs.Family.{children_of, IsScene}

-- the part of a list from a key on
abbrev pub keys_from : Option Key → List Key → List Key
keys_from None ks = []
keys_from (Some k) [] = []
keys_from (Some k) (q ∷ qs) = cond (is_key q k) (q ∷ qs) (keys_from (Some k) qs)

module _ {T : Type 0} where
  -- depth-first from the keys that are ahead: first one of them, then what is below it, then the others, with all
  -- children in their order
  abbrev pub GoesDown : Nodes T → List Key → List Key → Type 0
  GoesDown nodes ahead [] = ahead ≡ []
  GoesDown nodes ahead (q ∷ qs) = (others : List Key) × ((ahead ≡ q ∷ others) × GoesDown nodes (children_of nodes q ++ others) qs)

  -- what is listed so, at most so many keys
  abbrev pub keys_down : Nodes T → ℕ → List Key → List Key
  keys_down nodes zero ahead = []
  keys_down nodes (suc n) [] = []
  keys_down nodes (suc n) (q ∷ others) = q ∷ keys_down nodes n (children_of nodes q ++ others)

  -- the keys of all nodes below one
  abbrev pub all_below : Nodes T → Key → List Key
  all_below nodes node = keys_down nodes (map.len nodes) (children_of nodes node)

  -- a walk that is to stay below a node, and is at k, ends at this node, or at the root of k if k isn't below it
  abbrev pub IsTop : Nodes T → Key → Key → Key → Type 0
  IsTop nodes node k top = IsWithin nodes k top × ((top ≡ node) ⊎ ((parent_of nodes top ≡ None) × (IsWithin nodes k node → ⊥)))

  -- what holds of each walk: it is at one of the nodes below a node, or has come to its end
  pub record WalksBelow (nodes : Nodes T) (node : Key) (at : Option Key) : Type 0 where
    pub scene : IsScene nodes
    pub inside : IfSome at (λ k. 0 < times k (all_below nodes node))
