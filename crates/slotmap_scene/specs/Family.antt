-- The children of each node, and how a call changes them.
use Rattle.std.specs.Prelude.{◌≡◌, ◌≢◌, ℕ, Option, Some, None, List, [], ◌∷◌, ◌++◌, cond, option_map}
use Rattle.std.specs.FinMap as map
use Rattle.slotmap.specs.Words.{Key}
use Rattle.slotmap_scene.specs.Node.{Node, Nodes}
use Rattle.slotmap_scene.specs.Climb.{IsTree, parent_of, with_parent}
use Rattle.slotmap_scene.specs.declared.tree.Side.{Side}
use Rattle.slotmap_scene.specs.declared.tree.Side.TheVariants.{Before, After}
use Rattle.slotmap_bounded.specs.Changed.{changed}
use Rattle.slotmap_bounded.specs.KeyLists.{is_key, same, times, without}
use Rattle.slotmap_links.specs.Lists.{first_or}

-- the key behind k in a list, and the one in front of it, or another where there is none
abbrev pub behind : Key → List Key → Option Key
behind k [] = None
behind k (q ∷ qs) = cond (is_key q k) (first_or qs None) (behind k qs)

abbrev pub in_front : Option Key → Key → List Key → Option Key
in_front other k [] = None
in_front other k (q ∷ qs) = cond (is_key q k) other (in_front (Some q) k qs)

-- 1 if p is the parent, else 0
abbrev pub is_parent : Option Key → Key → ℕ
is_parent None p = 0
is_parent (Some q) p = same q p

-- a side of a sibling, and the two sides, under names that callers can write
abbrev pub SiblingSide : Type 0
SiblingSide = Side

abbrev pub right_before : SiblingSide
right_before = Before

abbrev pub right_behind : SiblingSide
right_behind = After

-- k on this side of q, which is in front of the others
abbrev pub beside_first : {A : Type 0} → Side → A → A → List A → List A
beside_first Before k q qs = k ∷ q ∷ qs
beside_first After k q qs = q ∷ k ∷ qs

-- k is placed right before its sibling s, or right behind it; where s isn't there, at the end
abbrev pub placed : Side → Key → Key → List Key → List Key
placed side s k [] = k ∷ []
placed side s k (q ∷ qs) = cond (is_key q s) (beside_first side k q qs) (q ∷ placed side s k qs)

-- the same, or before none at the end, and behind none at the front
abbrev pub put_in_place : Side → Option Key → Key → List Key → List Key
put_in_place side (Some s) k ks = placed side s k ks
put_in_place Before None k ks = ks ++ k ∷ []
put_in_place After None k ks = k ∷ ks

module _ {T : Type 0} where
  -- the children of a node, if there is one
  abbrev pub children_in : Option (Node T) → List Key
  children_in None = []
  children_in (Some node) = node.children

  -- the children of k, in order; a removed node has none
  abbrev pub children_of : Nodes T → Key → List Key
  children_of nodes k = children_in (map.get nodes k)

  -- the children of a node's parent; a root has no siblings
  abbrev pub children_under : Nodes T → Option Key → List Key
  children_under nodes None = []
  children_under nodes (Some p) = children_of nodes p

  abbrev pub siblings_of : Nodes T → Key → List Key
  siblings_of nodes k = children_under nodes (parent_of nodes k)

  -- each node appears exactly once in its parent's list of children, and in no other
  abbrev pub AreListed : Nodes T → Type 0
  AreListed nodes = (p k : Key) → times k (children_of nodes p) ≡ is_parent (parent_of nodes k) p

  -- what holds of every scene
  pub record IsScene (nodes : Nodes T) : Type 0 where
    pub tree : IsTree nodes
    pub listed : AreListed nodes

  -- a node with no children
  abbrev pub child : Option Key → T → Node T
  child parent v = record { value = v; parent = parent; children = [] }

  -- a clone of the value, with the same parent and the same children
  abbrev pub IsNodeClone : (T → T → Type 0) → Node T → Node T → Type 0
  IsNodeClone is_clone node copy = is_clone node.value copy.value × (copy.parent ≡ node.parent) × (copy.children ≡ node.children)

  -- the value of k, if k is a node
  abbrev pub value_of : Nodes T → Key → Option T
  value_of nodes k = option_map (λ n. n.value) (map.get nodes k)

  -- k is a new child of p, which has these children now, and the same value and parent; all other nodes are the same
  pub record IsNewChild (old new : Nodes T) (k p : Key) (v : T) (children : List Key) : Type 0 where
    pub node : map.get new k ≡ Some (child (Some p) v)
    pub children_are : children_of new p ≡ children
    pub value : value_of new p ≡ value_of old p
    pub parent : parent_of new p ≡ parent_of old p
    pub others : (q : Key) → q ≢ k → q ≢ p → map.get new q ≡ map.get old q

  -- k has this value, and nothing else changed
  abbrev pub with_value : Nodes T → Key → T → Nodes T
  with_value nodes k v = changed nodes k (λ n. record n { value = v })

  -- a node that has lost a child
  abbrev pub forgets : Key → Node T → Node T
  forgets k node = record node { children = without k node.children }

  -- the node under a parent, if there is one, has other children
  abbrev pub with_children_of : Nodes T → Option Key → (List Key → List Key) → Nodes T
  with_children_of nodes None f = nodes
  with_children_of nodes (Some p) f = changed nodes p (λ n. record n { children = f n.children })

  -- k is put behind the children of p
  abbrev pub with_child : Nodes T → Key → Key → Nodes T
  with_child nodes p k = with_children_of nodes (Some p) (λ ks. ks ++ k ∷ [])

  -- k is taken from the children of p
  abbrev pub without_child : Nodes T → Option Key → Key → Nodes T
  without_child nodes p k = with_children_of nodes p (without k)

  -- k is put right before s, or right behind it, among the children of the parent of s
  abbrev pub with_sibling : Side → Nodes T → Key → Key → Nodes T
  with_sibling side nodes s k = with_children_of nodes (parent_of nodes s) (placed side s k)

  -- k has this parent, is put among its children, and no other node has it as a child
  abbrev pub as_placed : Nodes T → Key → Option Key → (List Key → List Key) → Nodes T
  as_placed nodes k parent put = with_children_of (with_parent (without_child nodes (parent_of nodes k) k) k parent) parent put

  -- k is a root, and no node has it as a child
  abbrev pub as_root : Nodes T → Key → Nodes T
  as_root nodes k = as_placed nodes k None (λ ks. ks)

  abbrev pub as_child : Nodes T → Key → Key → (List Key → List Key) → Nodes T
  as_child nodes k p put = as_placed nodes k (Some p) put

  -- k is the last child of p, and no other node has it as a child
  abbrev pub as_last_child : Nodes T → Key → Key → Nodes T
  as_last_child nodes k p = as_child nodes k p (λ ks. ks ++ k ∷ [])

  -- k has this parent, is put among its children, and is no other node's child; all other nodes have the same parent and the same children
  pub record IsMoved (old new : Nodes T) (k : Key) (parent : Option Key) (put : List Key → List Key) : Type 0 where
    pub parent_is : parent_of new k ≡ parent
    pub parents : (q : Key) → q ≢ k → parent_of new q ≡ parent_of old q
    pub children_are : (p : Key) → parent ≡ Some p → children_of new p ≡ put (without k (children_of old p))
    pub other_children : (q : Key) → parent ≢ Some q → children_of new q ≡ without k (children_of old q)
