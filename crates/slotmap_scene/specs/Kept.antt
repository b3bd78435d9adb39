-- How a scene is kept: its values in a map, and beside it, by the index of a key, the index of the parent and those of the children.
use Rattle.std.specs.Prelude.{◌≡◌, ◌⊎◌, ℕ, ◌<◌, ◌≤◌, Option, Some, None, IfSome, List, [], ◌∷◌, ◌++◌, length, map as list_map, nat_eq}
use Rattle.std.specs.Prelude.{slice_index_or, cond}
use Rattle.std.specs.List.{filter}
use Rattle.std.specs.FinMap as map
use Rattle.slotmap.specs.Words.{Key, key_cmp, Content, IsLive}
use Rattle.slotmap_bounded.specs.Bounded.{bound}
use Rattle.slotmap_bounded.specs.Indices.{HasKey, HaveIndices, found_at, keys_at}
use Rattle.slotmap_bounded.specs.Mapped.{with_live}
use Rattle.slotmap_links.specs.Lists.{Lists, list_of, IsIn, AreDisjoint, put_before, put_behind}
use Rattle.slotmap_scene.specs.Node.{Forest, Node, Nodes}
use Rattle.slotmap_scene.specs.Climb.{has_node}
use Rattle.slotmap_scene.specs.declared.tree.Side.{Side}
use Rattle.slotmap_scene.specs.declared.tree.Side.TheVariants.{Before, After}

-- the index of the parent of the node with an index; 0, the index of no key, where it has none
abbrev pub parent_at : List ℕ → ℕ → ℕ
parent_at parents i = slice_index_or parents i 0

abbrev pub parent_index : Option Key → ℕ
parent_index None = 0
parent_index (Some k) = k.index

-- a number on this side of another one in a list
abbrev pub put_on : Side → ℕ → ℕ → List ℕ → List ℕ
put_on Before s k ks = put_before s k ks
put_on After s k ks = put_behind s k ks

-- the same beside a key, or before none at the end, and behind none at the front
abbrev pub number_in_place : Side → Option Key → ℕ → List ℕ → List ℕ
number_in_place side (Some s) k ks = put_on side s.index k ks
number_in_place Before None k ks = ks ++ k ∷ []
number_in_place After None k ks = k ∷ ks

-- the keys, of some, that have no parent
abbrev pub roots_of : List ℕ → List Key → List Key
roots_of parents ks = filter (λ k. nat_eq (parent_at parents k.index) 0) ks

-- there is a place for the parent and for the children of each index up to this one
pub record AreCovered (index : ℕ) (ps : List ℕ) (ls : Lists) : Type 0 where
  pub parents : index < length ps
  pub owners : index < length ls.lists
  pub members : index < ls.members

-- the same parents, and the same lists of children, of no fewer indices
pub record HoldsMore (old new : List ℕ) : Type 0 where
  pub same : (i : ℕ) → parent_at new i ≡ parent_at old i
  pub more : length old ≤ length new

module _ {T : Type 0} where
  -- a node as it is seen
  abbrev pub node_at : map.FinMap key_cmp T → List ℕ → Lists → Key → T → Node T
  node_at live parents children k v =
      record { value = v; parent = found_at live (parent_at parents k.index); children = keys_at live (list_of children k.index) }

  unfoldable pub nodes_by : map.FinMap key_cmp T → List ℕ → Lists → Nodes T
  nodes_by live parents children = map.from_sorted (list_map (λ e. (e.0, node_at live parents children e.0 e.1)) (map.entries live))

  abbrev pub family : Content T → List ℕ → Lists → Content (Node T)
  family c parents children = with_live c (nodes_by c.live parents children)

  -- the same, and for how many parents there is memory
  abbrev pub forest : Content T → List ℕ → Lists → ℕ → Forest T
  forest c parents children capacity = record { nodes = family c parents children; links = (capacity, children.capacity) }

  -- parents and children are nodes
  pub record HoldsNodes (c : Content T) (parents : List ℕ) (children : Lists) : Type 0 where
    pub indices : HaveIndices c
    pub covered : AreCovered (bound c) parents children
    pub disjoint : AreDisjoint children
    pub listed : (p i : ℕ) → IsIn children p i → HasKey c p × HasKey c i
    pub has_parent : (k : Key) → IsLive c k → (parent_at parents k.index ≡ 0) ⊎ HasKey c (parent_at parents k.index)

-- a parent, if there is one, is a node
abbrev pub IsParent : {T : Type 0} → Nodes T → Option Key → Type 0
IsParent nodes parent = IfSome parent (has_node nodes)

-- the index of a node; that of none where it doesn't exist
abbrev pub owner_of : {T : Type 0} → Nodes T → Key → ℕ
owner_of nodes k = cond (map.contains_key nodes k) k.index 0
