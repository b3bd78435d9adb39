-- A graph as its users see it.
use Rattle.std.specs.Prelude.{◌≡◌, ℕ, ◌<◌, ◌≤◌, ◌⊎◌, Option, Some, None, Bool, not, ◌||◌, refl, List, [], ◌∷◌, unwrap_or, cond, ◌++◌}
use Rattle.std.specs.FinMap as map
use Rattle.std.specs.Coded.{Coded, code_by, coded×, coded_list, coded_ℕ}
use Rattle.slotmap.specs.Words.{Key, key_cmp, coded_key, Content, content_code, with_value, IsLive, LacksRoom, Pairs, get, put, used, most}
use Rattle.slotmap.specs.declared.ReserveError.{ReserveError}
use Rattle.slotmap.specs.declared.ReserveError.TheVariants as reserve
use Rattle.slotmap_bounded.specs.KeyLists.{is_key, same, times}
use Rattle.slotmap_links.specs.Lists.{first_or}
use Rattle.slotmap_graph.specs.declared.EdgeError.{EdgeError}
use Rattle.slotmap_graph.specs.declared.EdgeError.TheVariants.{Gone, Full, Memory}

-- an edge: where it begins and ends, and its value
pub record SeenEdge (E : Type 0) : Type 0 where
  pub from : Key
  pub to : Key
  pub value : E

-- the edge of each key
abbrev pub Edges : Type 0 → Type 0
Edges E = map.FinMap key_cmp (SeenEdge E)

-- for each node the keys of its edges, by one of their ends, those added first in front
abbrev pub ByNode : Type 0
ByNode = map.FinMap key_cmp (List Key)

pub record Seen (N E : Type 0) : Type 0 where
  pub nodes : Content N
  pub edges : Content (SeenEdge E)
  -- the outgoing edges of each node, and its incoming ones
  pub out : ByNode
  pub into : ByNode
  -- there are links for lists of so many nodes and edges, in both directions
  pub links : (ℕ × ℕ) × (ℕ × ℕ)

abbrev pub edge_code : {E : Type 0} → Coded E → Coded (SeenEdge E)
edge_code {E} e =
    code_by (Key × (Key × E)) (coded× coded_key (coded× coded_key e)) (λ e. (e.from, (e.to, e.value))) (λ p. record { from = p.0; to = p.1.0; value = p.1.1 }) (λ _. refl)

abbrev pub by_node_code : Coded ByNode
by_node_code = map.code coded_key (coded_list coded_key)

-- by which a proof tells two graphs apart
abbrev pub seen_code : {N E : Type 0} → Coded N → Coded E → Coded (Seen N E)
seen_code {N} {E} n e =
    code_by (Content N × (Content (SeenEdge E) × (ByNode × (ByNode × ((ℕ × ℕ) × (ℕ × ℕ))))))
    (coded× (content_code n) (coded× (content_code (edge_code e)) (coded× by_node_code (coded× by_node_code (coded× (coded× coded_ℕ coded_ℕ) (coded× coded_ℕ coded_ℕ))))))
    (λ s. (s.nodes, (s.edges, (s.out, (s.into, s.links))))) (λ p. record { nodes = p.0; edges = p.1.0; out = p.1.1.0; into = p.1.1.1.0; links = p.1.1.1.1 }) (λ _. refl)

-- the edges of a node; one that doesn't exist has none
abbrev pub edges_at : ByNode → Key → List Key
edges_at lists k = unwrap_or (map.get lists k) []

-- the key after k in a list; after the last one, and where k isn't there, none
abbrev pub key_after : Key → List Key → Option Key
key_after k [] = None
key_after k (q ∷ ks) = cond (is_key q k) (first_or ks None) (key_after k ks)

module _ {E : Type 0} where
  abbrev pub from : SeenEdge E → Key
  from e = e.from

  abbrev pub to : SeenEdge E → Key
  to e = e.to

  abbrev pub ends : SeenEdge E → Key × Key
  ends e = (e.from, e.to)

  abbrev pub value : SeenEdge E → E
  value e = e.value

  -- the edge touches the node
  abbrev pub touches : Key → SeenEdge E → Bool
  touches k e = is_key e.from k || is_key e.to k

  -- the copy of an edge joins the same nodes, and has a clone of its value
  abbrev pub clones_edge : (E → E → Type 0) → SeenEdge E → SeenEdge E → Type 0
  clones_edge is_clone e copy = (copy.from ≡ e.from) × (copy.to ≡ e.to) × is_clone e.value copy.value

  abbrev pub avoids : Key → SeenEdge E → Bool
  avoids k e = not (touches k e)

  -- 1 if an edge is there whose end is the node, and else 0
  abbrev pub ends_at : (SeenEdge E → Key) → Key → Option (SeenEdge E) → ℕ
  ends_at end k None = 0
  ends_at end k (Some e) = same (end e) k

  -- the list has the key of each edge whose end is k, once, and nothing else
  abbrev pub ListsEdges : (SeenEdge E → Key) → Edges E → Key → List Key → Type 0
  ListsEdges end edges k ks = (x : Key) → times x ks ≡ ends_at end k (map.get edges x)

  -- the edge k has another value; if there is none, nothing changes
  abbrev pub with_edge_in : Content (SeenEdge E) → Key → E → Option (SeenEdge E) → Content (SeenEdge E)
  with_edge_in edges k v None = edges
  with_edge_in edges k v (Some e) = with_value edges k (record e { value = v })

  abbrev pub with_edge : Content (SeenEdge E) → Key → E → Content (SeenEdge E)
  with_edge edges k v = with_edge_in edges k v (map.get edges.live k)

-- what holds of every graph: each edge joins two live nodes, and is listed at both
pub record IsJoined {N E : Type 0} (s : Seen N E) : Type 0 where
  pub ends : (k : Key) (e : SeenEdge E) → map.get s.edges.live k ≡ Some e → IsLive s.nodes e.from × IsLive s.nodes e.to
  pub out : (k : Key) → ListsEdges from s.edges.live k (edges_at s.out k)
  pub into : (k : Key) → ListsEdges to s.edges.live k (edges_at s.into k)

-- the data of two keys
abbrev pub both : {K : Type 0} → (K → Key) → K × K → Key × Key
both data_of ks = (data_of ks.0, data_of ks.1)

-- k is put behind the edges of one node
abbrev pub PutsBehind : ByNode → Key → Key → ByNode → Type 0
PutsBehind old node x new = (k : Key) → edges_at new k ≡ cond (is_key k node) (edges_at old k ++ x ∷ []) (edges_at old k)

-- the same edges at each node
abbrev pub SameEdges : ByNode → ByNode → Type 0
SameEdges old new = (k : Key) → edges_at new k ≡ edges_at old k

-- a put under the key changes what it finds, and nothing under any other key
pub record PutsAlone {V : Type 0} (m : Pairs V) (k : Key) : Type 0 where
  pub here : (v : V) → get (put m k v) k ≡ Some v
  pub others : (v : V) (q : Key) → (q ≡ k → ⊥) → get (put m k v) q ≡ get m q

-- an edge isn't added: `Gone` if and only if one of the two nodes isn't live, else `Full` if and only if the limit is reached, else `Memory`,
-- where no room was promised; the error holds the value
abbrev pub RefusesEdge : {N E : Type 0} → Content N → Content (SeenEdge E) → Key → Key → E → EdgeError E → Type 0
RefusesEdge nodes edges from to e (Gone back) = ((IsLive nodes from × IsLive nodes to) → ⊥) × (back ≡ e)
RefusesEdge nodes edges from to e (Full back) = IsLive nodes from × IsLive nodes to × (used edges ≡ most) × (back ≡ e)
RefusesEdge nodes edges from to e (Memory back) = IsLive nodes from × IsLive nodes to × LacksRoom edges × (back ≡ e)

-- `TooGreat` exactly if more nodes or more edges are asked for than a map can hold
abbrev pub RefusesEither : ℕ → ℕ → ReserveError → Type 0
RefusesEither nodes edges reserve.TooGreat = (most < nodes) ⊎ (most < edges)
RefusesEither nodes edges reserve.Memory = (nodes ≤ most) × (edges ≤ most)
