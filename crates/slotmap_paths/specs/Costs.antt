-- What paths cost in a graph whose edges have costs in a table.
use Rattle.std.specs.Prelude.{◌≡◌, ℕ, ◌+◌, ◌^◌, ◌<◌, ◌≤◌, Option, Some, List, [], ◌∷◌, option_map, true}
use Rattle.std.specs.FinMap as map
use Rattle.slotmap.specs.Words.{Key, Pairs, contains_key, get}
use Rattle.slotmap_graph.specs.Parts.{SeenEdge, Edges}
use Rattle.slotmap_paths.specs.Paths.{Costs, ComesAlong, PathOf, TracedBy}
use Rattle.slotmap_paths.specs.declared.Reached.{Reached}
use Rattle.slotmap_paths.specs.declared.PathError.{PathError}
use Rattle.slotmap_paths.specs.declared.PathError.TheVariants.{TooLong, Memory}

abbrev pub distance : Reached → ℕ
distance r = r.distance

abbrev pub last_edge : Reached → Option Key
last_edge r = r.by

-- the distances of the nodes that were found
abbrev pub distances : Pairs Reached → Key → Option ℕ
distances found k = option_map distance (get found k)

module _ {E : Type 0} (edges : Edges E) (costs : Pairs ℕ) where
  -- the edge k goes from a to b, and its cost in the table is c
  abbrev pub IsStep : Key → Key → Key → ℕ → Type 0
  IsStep k a b c = (e : SeenEdge E) × (map.get edges k ≡ Some e) × (e.from ≡ a) × (e.to ≡ b) × (get costs k ≡ Some c)

  -- the edges of some path from a to b cost s in all
  abbrev pub IsSum : Key → Key → ℕ → Type 0
  IsSum a b s = Costs IsStep a b s

  -- each edge has a cost
  abbrev pub HaveCosts : Type 0
  HaveCosts = (k : Key) (e : SeenEdge E) → map.get edges k ≡ Some e → contains_key costs k ≡ true

  -- b is the start, at distance 0; or its edge goes there from a node that was found, and the distance of that node and the
  -- cost of the edge add up to that of b
  abbrev pub ComesBy : Key → Pairs Reached → Key → Reached → Type 0
  ComesBy start found b r = ComesAlong IsStep start (distances found) b r.distance r.by

  -- n last edges lead back from x to the start, one after the other; their costs add up to the distance of x
  abbrev pub IsTraced : Key → Pairs Reached → ℕ → Key → Reached → Type 0
  IsTraced start found n x r = TracedBy IsStep distance last_edge start (get found) n x r.distance r.by

  -- from each node that was found, last edges lead back to the start, one after the other; they are fewer than the nodes that were found
  abbrev pub AreTraced : Key → Pairs Reached → Type 0
  AreTraced start found = (x : Key) (r : Reached) → get found x ≡ Some r → (n : ℕ) × (n < map.len found) × IsTraced start found n x r

  -- the edges of some path from a to b, so many at most, cost s in all
  abbrev pub IsSumBy : ℕ → Key → Key → ℕ → Type 0
  IsSumBy m a b s = (n : ℕ) × (n ≤ m) × PathOf IsStep n a b s

  -- `TooLong`: a path from the start, of so many edges at most, costs more than 64 bits can hold
  abbrev pub RefusesPaths : ℕ → Key → PathError → Type 0
  RefusesPaths m start TooLong = (b : Key) × (s : ℕ) × IsSumBy m start b s × (2 ^ 64 ≤ s)
  RefusesPaths m start Memory = Unit {0}

-- the costs of these edges add up to s
abbrev pub AddUp : Pairs ℕ → List Key → ℕ → Type 0
AddUp costs [] s = s ≡ 0
AddUp costs (k ∷ ks) s = (c : ℕ) × (rest : ℕ) × (get costs k ≡ Some c) × AddUp costs ks rest × (s ≡ c + rest)

module _ {E : Type 0} (edges : Edges E) where
  -- these edges go from a to b, one after the other
  abbrev pub IsRoute : List Key → Key → Key → Type 0
  IsRoute [] a b = a ≡ b
  IsRoute (k ∷ ks) a b = (e : SeenEdge E) × (map.get edges k ≡ Some e) × (e.from ≡ a) × IsRoute ks e.to b

  -- the edge k goes from a to b, and a was found
  abbrev pub GoesBack : Pairs Reached → Key → Key → Key → Reached → Type 0
  GoesBack found k a b r = (e : SeenEdge E) × (map.get edges k ≡ Some e) × (e.from ≡ a) × (e.to ≡ b) × (get found a ≡ Some r)
