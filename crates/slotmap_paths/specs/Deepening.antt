-- A depth first search: the nodes that were found, those of them that are open, and those that were left.
use Rattle.std.specs.Prelude.{◌≡◌, ℕ, ◌+◌, ◌<◌, ◌⊎◌, true, false, cond, if◌then◌else◌, Option, Some, None, List, [], ◌∷◌, ◌++◌, length, map as list_map, reverse}
use Rattle.std.specs.List.{All}
use Rattle.std.specs.FinMap as map
use Rattle.slotmap.specs.Words.{IsBeside, Key, Pairs, contains_key, put}
use Rattle.slotmap_bounded.specs.KeyLists.{is_key, last_or, times}
use Rattle.slotmap_links.specs.Lists.{first_or}
use Rattle.slotmap_graph.specs.Parts.{ByNode, Edges, Seen, SeenEdge, edges_at}
use Rattle.slotmap_graph.specs.Search.{HasNext, Leads}
use Rattle.slotmap_paths.specs.Depth.{keys_behind}
use Rattle.slotmap_paths.specs.Searching.{owed}
use Rattle.slotmap_paths.specs.declared.depth.Open.{Open}

-- the nodes that were found
abbrev pub Found : Type 0
Found = Pairs (Unit {0})

-- the keys of a list from one of them on; where it isn't there, none
abbrev pub keys_from : Key → List Key → List Key
keys_from k [] = []
keys_from k (q ∷ ks) = cond (is_key q k) (q ∷ ks) (keys_from k ks)

-- the keys from the next one on
abbrev pub ahead : Option Key → List Key → List Key
ahead None ks = []
ahead (Some k) ks = keys_from k ks

-- an open node, with the next of its edges to follow
abbrev pub OpenNode : Type 0
OpenNode = Key × Option Key

module _ {K : Type 0} (data_of : K → Key) where
  abbrev pub open_node : Open K → OpenNode
  open_node o = (data_of o.node, o.next)

  -- the open nodes of a search, the one that was found last in front
  abbrev pub opened_by : List (Open K) → List OpenNode
  opened_by opened = reverse (list_map open_node opened)

-- their keys
abbrev pub open_nodes : List OpenNode → List Key
open_nodes opened = list_map (λ o. o.0) opened

-- the edges of an open node that weren't followed yet
abbrev pub edges_left : ByNode → OpenNode → List Key
edges_left out o = ahead o.1 (edges_at out o.0)

module _ {E : Type 0} (edges : Edges E) where
  -- each of these nodes leads to those in front of it
  abbrev pub LeadForward : List Key → Type 0
  LeadForward [] = Unit {0}
  LeadForward (k ∷ ks) = ((a : Key) → 0 < times a ks → Leads edges a k) × LeadForward ks

  -- an order of the nodes that were left, in which the open ones will be behind them
  abbrev pub OrdersSoFar : List Key → List Key → Type 0
  OrdersSoFar left opened = (a b : Key) → 0 < times a left → 0 < times b (keys_behind a (left ++ opened)) → Leads edges a b
      → Leads edges b a ⊎ ((c : Key) × (0 < times c (keys_behind b (left ++ opened))) × Leads edges a c)

module _ {N E : Type 0} (s : Seen N E) where
  -- each edge of an open node that was followed goes to a node that was found
  pub record IsOpen (found : Found) (o : OpenNode) : Type 0 where
    pub next : o.1 ≡ first_or (edges_left s.out o) None
    pub goes : (k : Key) (e : SeenEdge E) → map.get s.edges.live k ≡ Some e → e.from ≡ o.0 → (0 < times k (edges_left s.out o)) ⊎ (contains_key found e.to ≡ true)

  -- each node that was found is open, or was left; a node that was left has no edge to one that wasn't found
  pub record Deepening (found : Found) (opened : List OpenNode) (left : List Key) : Type 0 where
    pub listed : (x : Key) → times x left + times x (open_nodes opened) ≡ (if contains_key found x then 1 else 0)
    pub live : IsBeside s.nodes found
    pub followed : All (IsOpen found) opened
    pub ended : (x : Key) → 0 < times x left → HasNext s.edges.live x found
    pub forward : LeadForward s.edges.live (open_nodes opened)
    pub order : OrdersSoFar s.edges.live left (open_nodes opened)

  -- a search from a node, where these nodes were found before
  pub record SearchesFrom (before : Found) (start : Key) (found : Found) (opened : List OpenNode) (left : List Key) : Type 0 where
    pub deepening : Deepening found opened left
    pub kept : (x : Key) → contains_key before x ≡ true → contains_key found x ≡ true
    pub begun : contains_key found start ≡ true
    pub led : (x : Key) → contains_key found x ≡ true → (contains_key before x ≡ true) ⊎ Leads s.edges.live start x
    pub opened_led : (x : Key) → 0 < times x (open_nodes opened) → Leads s.edges.live start x
    -- the start will be the last one
    pub last : contains_key before start ≡ false → last_or (left ++ open_nodes opened) None ≡ Some start

  -- nothing changes where the node was found before, or else it is found and opened
  abbrev pub Enters : Found → List OpenNode → Key → Found → List OpenNode → Type 0
  Enters found opened k found' opened' = ((contains_key found k ≡ true) × (found' ≡ found) × (opened' ≡ opened))
      ⊎ ((contains_key found k ≡ false) × (found' ≡ put found k tt) × (opened' ≡ (k, first_or (edges_at s.out k) None) ∷ opened))

  -- how many edges of open nodes there are to follow, and nodes to leave
  abbrev pub open_work : List OpenNode → ℕ
  open_work [] = 0
  open_work (o ∷ os) = 1 + length (edges_left s.out o) + open_work os

  -- the same, with those of the nodes that weren't found yet
  abbrev pub work_left : Found → List OpenNode → ℕ
  work_left found opened = open_work opened + owed (λ k. 1 + length (edges_at s.out k)) (contains_key found) (map.keys s.nodes.live)
