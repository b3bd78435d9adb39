-- The values on the way from a node up to its root, and what is made of them.
use Rattle.std.specs.Prelude.{◌≡◌, Option, Some, None, List, [], ◌∷◌, ◌++◌, ⊤}
use Rattle.std.specs.Fn.{Mut, Called, Takes}
use Rattle.std.specs.Borrow.{Bor}
use Rattle.std.specs.List.{FoldsTo, fold}
use Rattle.slotmap.specs.Words.{Key}
use Rattle.slotmap_scene.specs.Node.{Nodes}
use Rattle.slotmap_scene.specs.Climb.{parent_of}
use Rattle.slotmap_scene.specs.Family.{value_of}

module _ {T : Type 0} where
  -- the values from a node up to its root, its own first; above a root there are none
  abbrev pub IsPathFrom : Nodes T → Option Key → List T → Type 0
  IsPathFrom nodes None [] = ⊤
  IsPathFrom nodes None (v ∷ above) = ⊥
  IsPathFrom nodes (Some k) [] = ⊥
  IsPathFrom nodes (Some k) (v ∷ above) = (value_of nodes k ≡ Some v) × IsPathFrom nodes (parent_of nodes k) above

  -- the same, from the node k
  abbrev pub IsPathUp : Nodes T → Key → List T → Type 0
  IsPathUp nodes k values = IsPathFrom nodes (Some k) values

module _ {T W : Type 0} (under : W → W → W) (of : T → W) where
  -- the transform of v, under that of p, where p is under what is above it, and so on
  abbrev pub world_along : T → List T → W
  world_along v [] = of v
  world_along v (p ∷ above) = under (of v) (world_along p above)

  -- w is the transform of k in the coordinates of its root: that of its own value under that of its parent, and so on up to the root
  pub record IsWorldOf (nodes : Nodes T) (k : Key) (w : W) : Type 0 where
    pub own : T
    pub above : List T
    pub path : IsPathUp nodes k (own ∷ above)
    pub made : w ≡ world_along own above

-- the same of values that are transforms themselves
abbrev pub IsWorld : {T : Type 0} → (T → T → T) → Nodes T → Key → T → Type 0
IsWorld under nodes k w = IsWorldOf under (λ v. v) nodes k w

-- of three in a row, it doesn't matter which two are put together first
abbrev pub Joins : {W : Type 0} → (W → W → W) → Type 0
Joins {W} under = (a b c : W) → under (under a b) c ≡ under a (under b c)

-- w is put together on the way up from k: first the transform of its own value under that of its parent, then the result under the next one up
pub record IsComposed {T W : Type 0} (under : W → W → W) (of : T → W) (nodes : Nodes T) (k : Key) (w : W) : Type 0 where
  pub own : T
  pub above : List T
  pub path : IsPathUp nodes k (own ∷ above)
  pub made : w ≡ fold (λ so_far v. under so_far (of v)) (of own) above

module _ {F A T : Type 0} (g : Mut F (A × (Bor T × Unit {0})) A) where
  -- a call at a value, which takes the closure from one state to another, and what there is so far to its result
  pub record CallsAt (before : F × A) (v : T) (after : F × A) : Type 0 where
    pub shown : Bor T
    pub shows : shown.now ≡ v
    pub called : Called g before.0 (before.1, (shown, tt)) after.1 after.0

  -- f is called once for each value from k up to its root, first that of k; each call gets the result of the one before it
  pub record FoldsUp (nodes : Nodes T) (k : Key) (f : F) (start end : A) : Type 0 where
    pub values : List T
    pub path : IsPathUp nodes k values
    pub last : F
    pub calls : FoldsTo CallsAt (f, start) values (last, end)

  -- f may be called for each value from k up to its root, after calls for all values below it
  pub record CallableUp (nodes : Nodes T) (k : Key) (f : F) (start : A) : Type 0 where
    pub at : (below above : List T) (f' : F) (so_far : A) (shown : Bor T) → IsPathUp nodes k (below ++ shown.now ∷ above)
        → FoldsTo CallsAt (f, start) below (f', so_far) → Takes g f' (so_far, (shown, tt))
