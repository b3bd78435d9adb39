-- The keys above a node, up to its root, and the roots.
use Rattle.std.specs.Prelude.{◌≡◌, ℕ, zero, suc, Option, Some, None, IfSome, List, [], ◌∷◌, ⊤, is_some, not}
use Rattle.std.specs.FinMap as map
use Rattle.std.specs.List.{filter}
use Rattle.slotmap.specs.Words.{Key}
use Rattle.slotmap_scene.specs.Node.{Nodes}
use Rattle.slotmap_scene.specs.Climb.{ClimbsTo, parent_of}

module _ {T : Type 0} where
  -- these keys lead from this one up to its root, and above a root there are none
  abbrev pub GoesUp : Nodes T → Option Key → List Key → Type 0
  GoesUp nodes None [] = ⊤
  GoesUp nodes None (q ∷ above) = ⊥
  GoesUp nodes (Some k) [] = ⊥
  GoesUp nodes (Some k) (q ∷ above) = (q ≡ k) × GoesUp nodes (parent_of nodes k) above

  -- the keys from this one up, at most so many
  abbrev pub keys_up : Nodes T → ℕ → Option Key → List Key
  keys_up nodes zero at = []
  keys_up nodes (suc n) None = []
  keys_up nodes (suc n) (Some k) = k ∷ keys_up nodes n (parent_of nodes k)

  -- there is a root above it, if it is a key
  abbrev pub HasRoot : Nodes T → Option Key → Type 0
  HasRoot nodes at = IfSome at (λ k. (n : ℕ) × ClimbsTo nodes n k)

-- the keys of the roots, by ascending index
abbrev pub roots_in : {T : Type 0} → Nodes T → List Key
roots_in nodes = filter (λ k. not (is_some (parent_of nodes k))) (map.keys nodes)
