-- The paths from the nodes of a scene up to their roots.
use Rattle.std.specs.Prelude.{◌≡◌, ℕ, zero, suc, Option, Some, None, true, false}
use Rattle.std.specs.FinMap as map
use Rattle.slotmap.specs.Words.{Key}
use Rattle.slotmap_bounded.specs.Changed.{changed}
use Rattle.slotmap_scene.specs.Node.{Node, Nodes}

module _ {T : Type 0} where
  abbrev pub has_node : Nodes T → Key → Type 0
  has_node nodes k = map.contains_key nodes k ≡ true

  abbrev pub lacks_node : Nodes T → Key → Type 0
  lacks_node nodes k = map.contains_key nodes k ≡ false

  abbrev pub parent_in : Option (Node T) → Option Key
  parent_in None = None
  parent_in (Some node) = node.parent

  -- the parent of k; a root has none
  abbrev pub parent_of : Nodes T → Key → Option Key
  parent_of nodes k = parent_in (map.get nodes k)

  -- a root is so many steps up from the node k
  abbrev pub ClimbsTo : Nodes T → ℕ → Key → Type 0
  ClimbsTo nodes zero k = has_node nodes k × (parent_of nodes k ≡ None)
  ClimbsTo nodes (suc n) k = (p : Key) × (has_node nodes k × (parent_of nodes k ≡ Some p) × ClimbsTo nodes n p)

  -- each node has a root above it: no node is above itself
  abbrev pub IsTree : Nodes T → Type 0
  IsTree nodes = (k : Key) → has_node nodes k → (n : ℕ) × ClimbsTo nodes n k

  -- so many steps up from k is other
  abbrev pub StepsTo : Nodes T → ℕ → Key → Key → Type 0
  StepsTo nodes zero k other = k ≡ other
  StepsTo nodes (suc n) k other = (p : Key) × ((parent_of nodes k ≡ Some p) × StepsTo nodes n p other)

  -- k is other, or below it
  abbrev pub IsWithin : Nodes T → Key → Key → Type 0
  IsWithin nodes k other = (n : ℕ) × StepsTo nodes n k other

  -- k has this parent, and nothing else changed
  abbrev pub with_parent : Nodes T → Key → Option Key → Nodes T
  with_parent nodes k parent = changed nodes k (λ n. record n { parent = parent })
