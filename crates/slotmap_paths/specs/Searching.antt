-- A search along the edges of a graph, with the nodes that are settled, and those that wait in a scheduler.
use Rattle.std.specs.Prelude.{◌≡◌, ◌≢◌, ℕ, ◌+◌, ◌^◌, ◌<◌, ◌≤◌, ◌⊎◌, Bool, true, cond, Option, Some, None, List, [], ◌∷◌, length}
use Rattle.std.specs.List.{All}
use Rattle.std.specs.FinMap as map
use Rattle.slotmap.specs.Words.{Key, Content, IsBeside, IsContent, IsLive, Pairs, contains_key, get}
use Rattle.slotmap_bounded.specs.KeyLists.{times}
use Rattle.slotmap_graph.specs.Parts.{Edges, IsJoined, Seen, edges_at}
use Rattle.slotmap_graph.specs.Search.{Leads}
use Rattle.slotmap_scheduler.specs.Schedule.{IsOnce, Waiting, job_of}
use Rattle.slotmap_paths.specs.Costs.{AreTraced, HaveCosts, IsStep, IsSum, distance, last_edge}
use Rattle.slotmap_paths.specs.Settling.{Settling}
use Rattle.slotmap_paths.specs.declared.Reached.{Reached}
use Rattle.slotmap_paths.specs.declared.search.Candidate.{Candidate}

module _ {K : Type 0} (data_of : K → Key) where
  abbrev pub node_of : Candidate K → Key
  node_of x = data_of x.node

  abbrev pub edge_to : Candidate K → Option Key
  edge_to x = x.by

  -- a search from the start, some of whose edges are left: none but these
  abbrev pub Searching : {E : Type 0} → Edges E → Pairs ℕ → Key → Pairs Reached → Waiting (Candidate K) → List Key → Type 0
  Searching edges costs start settled waiting left =
      Settling distance last_edge node_of edge_to (IsStep edges costs) start (get settled) (map.len settled) (λ h. job_of h waiting) (λ k. 0 < times k left)

  -- one more waits: a node at the distance s, by this edge
  abbrev pub Waits : Waiting (Candidate K) → Waiting (Candidate K) → Key → ℕ → Option Key → Type 0
  Waits old new node s by = (h : Key) × (x : Candidate K) × (job_of h old ≡ None) × (job_of h new ≡ Some (s, x))
      × ((q : Key) → q ≢ h → job_of q new ≡ job_of q old) × (node_of x ≡ node) × (edge_to x ≡ by)

  -- the same, unless the node is settled
  abbrev pub Offers : Pairs Reached → Waiting (Candidate K) → Waiting (Candidate K) → Key → ℕ → Key → Type 0
  Offers settled old new node s k = ((contains_key settled node ≡ true) × (new ≡ old)) ⊎ Waits old new node s (Some k)

  -- an edge is followed from a node at this distance: it has no cost, or the node to which it leads is offered
  abbrev pub FollowsEdge : {E : Type 0} → Edges E → Pairs ℕ → Pairs Reached → Waiting (Candidate K) → Waiting (Candidate K) → ℕ → Key → Type 0
  FollowsEdge edges costs settled old new t k = (((a b : Key) (c : ℕ) → IsStep edges costs k a b c → ⊥) × (new ≡ old))
      ⊎ ((a : Key) × (b : Key) × (c : ℕ) × IsStep edges costs k a b c × Offers settled old new b (t + c) k)

  -- the first candidate of a search was taken out: x, that waited for the time t
  pub record Visiting {N E : Type 0} (s : Seen N E) (costs : Pairs ℕ) (start : Key) (settled : Pairs Reached) (waiting : Waiting (Candidate K)) (t : ℕ) (x : Candidate K) : Type 0 where
    pub before : Waiting (Candidate K)
    pub handle : Key
    pub first : before ≡ (handle, (t, x)) ∷ waiting
    pub least : All (λ e. t ≤ e.1.0) waiting
    pub once : IsOnce before
    pub searching : Searching s.edges.live costs start settled before []
    pub joined : IsJoined s
    pub well : IsContent true s.nodes
    pub begun : IsLive s.nodes start

-- an edge leads from this distance to a sum beyond 64 bits
abbrev pub GoesBeyond : {E : Type 0} → Edges E → Pairs ℕ → ℕ → Key → Type 0
GoesBeyond edges costs t k = (a : Key) × (b : Key) × (c : ℕ) × IsStep edges costs k a b c × (2 ^ 64 ≤ t + c)

-- the sum of f over the keys of a list that aren't done
abbrev pub owed : (Key → ℕ) → (Key → Bool) → List Key → ℕ
owed f done [] = 0
owed f done (k ∷ ks) = cond (done k) 0 (f k) + owed f done ks

-- how many candidates wait, or may wait yet: one for each edge from a node that isn't settled
abbrev pub to_do : {N E T : Type 0} → Seen N E → Pairs Reached → Waiting T → ℕ
to_do s settled waiting = length waiting + owed (λ k. length (edges_at s.out k)) (contains_key settled) (map.keys s.nodes.live)

-- the node is settled at this distance, and no other node farther
pub record IsLatest (settled : Pairs Reached) (node : Key) (t : ℕ) : Type 0 where
  pub here : Reached
  pub there : get settled node ≡ Some here
  pub at : here.distance ≡ t
  pub others : (b : Key) (r : Reached) → get settled b ≡ Some r → r.distance ≤ t

-- what a search has found at its end
pub record FindsPaths {N E : Type 0} (nodes : Content N) (edges : Edges E) (costs : Pairs ℕ) (start : Key) (found : Pairs Reached) : Type 0 where
  pub traced : AreTraced edges costs start found
  pub least : (x : Key) (s : ℕ) → IsLive nodes start → IsSum edges costs start x s → (r : Reached) × (get found x ≡ Some r) × (r.distance ≤ s)
  pub all : HaveCosts edges costs → (x : Key) → IsLive nodes start → Leads edges start x → contains_key found x ≡ true
  pub live : IsBeside nodes found
  pub begun : (x : Key) (r : Reached) → get found x ≡ Some r → IsLive nodes start
