-- The visits of a walk that enters each node before those below it, and leaves it after them.
use Rattle.std.specs.Prelude.{ℕ, zero, suc, cond, Option, Some, None, IfSome, List, [], ◌∷◌, ◌++◌}
use Rattle.std.specs.FinMap as map
use Rattle.slotmap.specs.Words.{Key}
use Rattle.slotmap_bounded.specs.KeyLists.{is_key}
use Rattle.slotmap_scene.specs.Node.{Nodes}
use Rattle.slotmap_scene.specs.Climb.{IsWithin, has_node, parent_of}
use Rattle.slotmap_scene.specs.Family.{children_of, siblings_of, IsScene}
use Rattle.slotmap_scene.specs.declared.walk.Visit.{Visit}
use Rattle.slotmap_scene.specs.declared.walk.Visit.TheVariants.{Enter, Leave}

-- a visit, with the data of its key
abbrev pub visit_of : {K : Type 0} → (K → Key) → Visit K → Visit Key
visit_of data_of (Enter k) = Enter (data_of k)
visit_of data_of (Leave k) = Leave (data_of k)

-- a visit as clauses see it, and the two kinds, under names that callers can write
abbrev pub SeenVisit : Type 0
SeenVisit = Visit Key

abbrev pub entering : Key → SeenVisit
entering k = Enter k

abbrev pub leaving : Key → SeenVisit
leaving k = Leave k

-- what f makes of each of these keys, one list after the other
abbrev pub of_each : {A : Type 0} → (Key → List A) → List Key → List A
of_each f [] = []
of_each f (k ∷ ks) = f k ++ of_each f ks

-- the keys behind k in a list
abbrev pub later : Key → List Key → List Key
later k [] = []
later k (q ∷ qs) = cond (is_key q k) qs (later k qs)

-- a node is left, if there is one, and then comes what f says
abbrev pub left_then : (Key → List (Visit Key)) → Option Key → List (Visit Key)
left_then f None = []
left_then f (Some p) = Leave p ∷ f p

-- the key of a visit
abbrev pub visited : Visit Key → Key
visited (Enter k) = k
visited (Leave k) = k

module _ {T : Type 0} where
  -- a node is entered, then its children are visited in their order, and it is left; at most so many levels
  abbrev pub visits_within : Nodes T → ℕ → Key → List (Visit Key)
  visits_within nodes zero k = []
  visits_within nodes (suc n) k = Enter k ∷ of_each (visits_within nodes n) (children_of nodes k) ++ Leave k ∷ []

  -- the same of all levels: no path is longer than there are nodes
  abbrev pub visits_of : Nodes T → Key → List (Visit Key)
  visits_of nodes k = visits_within nodes (map.len nodes) k

  -- what is ahead once k was left: the visits of its later siblings, then its parent is left, and so on, up to the node
  abbrev pub ahead_within : Nodes T → Key → ℕ → Key → List (Visit Key)
  ahead_within nodes node zero k = []
  ahead_within nodes node (suc n) k =
      cond (is_key k node) [] (of_each (visits_of nodes) (later k (siblings_of nodes k)) ++ left_then (ahead_within nodes node n) (parent_of nodes k))

  -- the visits from this one on
  abbrev pub visits_from : Nodes T → Key → Option (Visit Key) → List (Visit Key)
  visits_from nodes node None = []
  visits_from nodes node (Some (Enter k)) = visits_of nodes k ++ ahead_within nodes node (map.len nodes) k
  visits_from nodes node (Some (Leave k)) = Leave k ∷ ahead_within nodes node (map.len nodes) k

  -- what holds of each walk: it comes to one of the nodes within a node, or has come to its end
  pub record IsWalk (nodes : Nodes T) (node : Key) (at : Option (Visit Key)) : Type 0 where
    pub scene : IsScene nodes
    pub inside : IfSome at (λ v. has_node nodes (visited v) × IsWithin nodes (visited v) node)
