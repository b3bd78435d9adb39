-- A scene and its nodes, as clauses see them.
use Rattle.std.specs.Prelude.{ℕ, Option, List, refl}
use Rattle.std.specs.Coded.{Coded, code_by, coded×, coded_ℕ, coded_list, coded_option}
use Rattle.std.specs.FinMap as map
use Rattle.slotmap.specs.Words.{Key, key_cmp, coded_key, Content, content_code}
use Rattle.slotmap_bounded.specs.Bounded.{space}

-- a node: its value, its parent, and its children, in order
pub record Node (T : Type 0) : Type 0 where
  pub value : T
  pub parent : Option Key
  pub children : List Key

-- by which a proof tells two nodes apart
abbrev pub node_code : {T : Type 0} → Coded T → Coded (Node T)
node_code {T} t =
    code_by (T × (Option Key × List Key)) (coded× t (coded× (coded_option coded_key) (coded_list coded_key)))
    (λ n. (n.value, (n.parent, n.children))) (λ p. record { value = p.0; parent = p.1.0; children = p.1.1 }) (λ _. refl)

-- the node of each key
abbrev pub Nodes : Type 0 → Type 0
Nodes T = map.FinMap key_cmp (Node T)

-- a key with the value of its node
abbrev pub key_and_value : {T : Type 0} → Key × Node T → Key × T
key_and_value e = (e.0, e.1.value)

-- a scene as its user sees it
pub record Forest (T : Type 0) : Type 0 where
  -- the nodes under their keys
  pub nodes : Content (Node T)
  -- there is memory for the parents of so many nodes, and for the links of so many parents and children
  pub links : ℕ × (ℕ × ℕ)

-- by which a proof tells two scenes apart
abbrev pub forest_code : {T : Type 0} → Coded T → Coded (Forest T)
forest_code {T} t =
    code_by (Content (Node T) × (ℕ × (ℕ × ℕ))) (coded× (content_code (node_code t)) (coded× coded_ℕ (coded× coded_ℕ coded_ℕ)))
    (λ s. (s.nodes, s.links)) (λ p. record { nodes = p.0; links = p.1 }) (λ _. refl)

module _ {T : Type 0} where
  -- what a scene has memory for, and the bound of its indices: where these stay, no vector has grown
  abbrev pub memory : Forest T → (ℕ × ℕ) × (ℕ × (ℕ × ℕ))
  memory s = (space s.nodes, s.links)

  -- the same keys, and other values, parents and children
  abbrev pub with_trees : Forest T → Nodes T → Forest T
  with_trees s nodes = record s { nodes = record s.nodes { live = nodes } }
