-- An order of the nodes in which each edge goes forward.
use Rattle.std.specs.Prelude.{◌≡◌, ℕ, ◌+◌, ◌<◌, ◌≤◌, Option, Some, None, List, [], ◌∷◌, ◌++◌, length, nat_eq, if◌then◌else◌}
use Rattle.std.specs.FinMap as map
use Rattle.slotmap.specs.Words.{Key, IsBeside, IsLive, Pairs, get}
use Rattle.slotmap_bounded.specs.KeyLists.{times}
use Rattle.slotmap_graph.specs.Parts.{Seen, SeenEdge, Edges, ByNode, edges_at}
use Rattle.slotmap_graph.specs.Search.{Leads}
use Rattle.slotmap_graph.specs.declared.order.OrderError.{OrderError}
use Rattle.slotmap_graph.specs.declared.order.OrderError.TheVariants.{Cycle, Memory}

module _ {E : Type 0} (edges : Edges E) where
  -- each edge that ends at a node of the list begins at one before it
  abbrev pub GoesForward : List Key → Type 0
  GoesForward ks = (k : Key) (e : SeenEdge E) (before after : List Key) → map.get edges k ≡ Some e → ks ≡ before ++ e.to ∷ after → 0 < times e.from before

  -- from the end of this edge a path leads back to its start
  abbrev pub ClosesCycle : Key → Type 0
  ClosesCycle k = (e : SeenEdge E) × (map.get edges k ≡ Some e) × Leads edges e.to e.from

  abbrev pub HasCycle : Type 0
  HasCycle = (k : Key) × ClosesCycle k

  -- no order was returned: the edge in the error closes a cycle, or memory ran out
  abbrev pub RefusesOrder : OrderError → Type 0
  RefusesOrder (Cycle k) = ClosesCycle k
  RefusesOrder Memory = Unit {0}

-- the edge in the error, if there is one
abbrev pub edge_in : OrderError → Option Key
edge_in (Cycle k) = Some k
edge_in Memory = None

-- the edges that go out of these nodes
abbrev pub edges_out : ByNode → List Key → List Key
edges_out out [] = []
edges_out out (k ∷ ks) = edges_at out k ++ edges_out out ks

-- how many of these edges were passed
abbrev pub passed_of : List Key → List Key → ℕ
passed_of passed [] = 0
passed_of passed (j ∷ js) = times j passed + passed_of passed js

-- For each node the number of its incoming edges that were not passed yet: those with none of them are in the list. Each edge that was passed
-- begins at a node of it
pub record Sorting {N E : Type 0} (s : Seen N E) (counts : Pairs ℕ) (found passed : List Key) : Type 0 where
  pub table : (y : Key) → IsLive s.nodes y → (n : ℕ) × (get counts y ≡ Some n) × (n + passed_of passed (edges_at s.into y) ≡ length (edges_at s.into y))
      × (times y found ≡ (if nat_eq n 0 then 1 else 0))
  pub live : (y : Key) → 0 < times y found → IsLive s.nodes y
  pub forward : GoesForward s.edges.live found
  pub began : (x : Key) (e : SeenEdge E) → map.get s.edges.live x ≡ Some e → 0 < times x passed → 0 < times e.from found
  pub once : (x : Key) → times x passed ≤ 1

-- The same before any edge was passed, where these nodes were counted
pub record Counting {N E : Type 0} (s : Seen N E) (counts : Pairs ℕ) (found done : List Key) : Type 0 where
  pub beside : IsBeside s.nodes counts
  pub table : (y : Key) → 0 < times y done → (get counts y ≡ Some (length (edges_at s.into y))) × (times y found ≡ (if nat_eq (length (edges_at s.into y)) 0 then 1 else 0))
  pub others : (y : Key) → times y done ≡ 0 → times y found ≡ 0

-- all edges that go out of the nodes found were passed
abbrev pub AllPassed : {N E : Type 0} → Seen N E → Pairs ℕ → Type 0
AllPassed s counts = (found : List Key) × Sorting s counts found (edges_out s.out found)

-- a node was not found, if some of its incoming edges were not passed
abbrev pub IsLeft : {N E : Type 0} → Seen N E → Pairs ℕ → Key → Type 0
IsLeft s counts y = IsLive s.nodes y × (n : ℕ) × (get counts y ≡ Some n) × (0 < n)

-- an edge into a node, from one that wasn't found
abbrev pub ComesFromLeft : {N E : Type 0} → Seen N E → Pairs ℕ → Key → Key → Type 0
ComesFromLeft {N} {E} s counts y k = (e : SeenEdge E) × (map.get s.edges.live k ≡ Some e) × (e.to ≡ y) × IsLeft s counts e.from
