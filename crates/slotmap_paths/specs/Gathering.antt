-- How the components of a graph are gathered, one after the other.
use Rattle.std.specs.Prelude.{◌≡◌, ℕ, ◌+◌, ◌<◌, ◌⊎◌, true, false, if◌then◌else◌, List, [], ◌∷◌, ◌++◌, drop}
use Rattle.std.specs.List.{All}
use Rattle.slotmap.specs.Words.{IsBeside, Key, contains_key, put}
use Rattle.slotmap_bounded.specs.KeyLists.{times}
use Rattle.slotmap_graph.specs.Parts.{Edges, Seen}
use Rattle.slotmap_graph.specs.Search.{GoesOn, HasEdge, Leads}
use Rattle.slotmap_paths.specs.Components.{IsComponent, LeadOnward, times_in}
use Rattle.slotmap_paths.specs.Deepening.{Found}

-- each marked node was marked before, or is once in the list
abbrev pub AreAdded : Found → Found → List Key → Type 0
AreAdded before marks found = (x : Key) → times x found + (if contains_key before x then 1 else 0) ≡ (if contains_key marks x then 1 else 0)

-- nothing changes where the node was marked before, or else it is marked and put behind the others
abbrev pub MarksOne : Found → List Key → Key → Found → List Key → Type 0
MarksOne marks found k marks' found' = ((contains_key marks k ≡ true) × (marks' ≡ marks) × (found' ≡ found))
    ⊎ ((contains_key marks k ≡ false) × (marks' ≡ put marks k tt) × (found' ≡ found ++ k ∷ []))

-- each node that is marked here stays marked
abbrev pub StayMarked : Found → Found → Type 0
StayMarked marks marks' = (x : Key) → contains_key marks x ≡ true → contains_key marks' x ≡ true

module _ {E : Type 0} (edges : Edges E) where
  -- the start of each incoming edge of b is marked
  abbrev pub HasPrevious : Key → Found → Type 0
  HasPrevious b marks = (a : Key) → HasEdge edges a b → contains_key marks a ≡ true

  -- no edge goes from a node that isn't marked to one that is
  abbrev pub IsClosed : Found → Type 0
  IsClosed marks = (b : Key) → contains_key marks b ≡ true → HasPrevious b marks

  -- each node that isn't marked and leads to this one is led to by it
  abbrev pub IsLast : Found → Key → Type 0
  IsLast marks a = (b : Key) → contains_key marks b ≡ false → Leads edges b a → Leads edges a b

module _ {N E : Type 0} (s : Seen N E) (before : Found) where
  -- more nodes were found, by incoming edges of b
  pub record FindsMore (marks : Found) (found : List Key) (b : Key) (marks' : Found) (found' : List Key) : Type 0 where
    pub added : AreAdded before marks' found'
    pub live : IsBeside s.nodes marks'
    pub keys_behind : GoesOn found found'
    pub kept : StayMarked marks marks'
    pub joined : (x : Key) → 0 < times x found' → (0 < times x found) ⊎ HasEdge s.edges.live x b

  -- nodes that lead to the root; those before this index have no incoming edge from one that isn't marked
  pub record Gathering (root : Key) (marks : Found) (found : List Key) (at : ℕ) : Type 0 where
    pub added : AreAdded before marks found
    pub live : IsBeside s.nodes marks
    pub begun : 0 < times root found
    pub led : (x : Key) → 0 < times x found → Leads s.edges.live x root
    pub passed : (x : Key) → 0 < times x found → (0 < times x (drop at found)) ⊎ HasPrevious s.edges.live x marks

  -- the same at the end
  pub record Gathers (root : Key) (marks : Found) (found : List Key) : Type 0 where
    pub added : AreAdded before marks found
    pub live : IsBeside s.nodes marks
    pub begun : 0 < times root found
    pub led : (x : Key) → 0 < times x found → Leads s.edges.live x root
    pub previous : (x : Key) → 0 < times x found → HasPrevious s.edges.live x marks

-- the marked nodes are those of some components
pub record Collecting {N E : Type 0} (s : Seen N E) (marks : Found) (components : List (List Key)) : Type 0 where
  pub once : (x : Key) → times_in x components ≡ (if contains_key marks x then 1 else 0)
  pub live : IsBeside s.nodes marks
  pub closed : IsClosed s.edges.live marks
  pub each : All (IsComponent s.edges.live) components
  pub onward : LeadOnward s.edges.live components
