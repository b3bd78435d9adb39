-- The strongly connected components of a graph.
use Rattle.std.specs.Prelude.{ℕ, ◌+◌, ◌<◌, List, [], ◌∷◌, length}
use Rattle.slotmap.specs.Words.{Key}
use Rattle.slotmap_bounded.specs.KeyLists.{times}
use Rattle.slotmap_graph.specs.Parts.{Edges}
use Rattle.slotmap_graph.specs.Search.{Leads}

-- how often a key is in some lists
abbrev pub times_in : Key → List (List Key) → ℕ
times_in k [] = 0
times_in k (ks ∷ kss) = times k ks + times_in k kss

module _ {E : Type 0} (edges : Edges E) where
  -- nodes that all lead to each other, and with one of them each that leads there and back
  pub record IsComponent (ks : List Key) : Type 0 where
    pub some : 0 < length ks
    pub together : (a b : Key) → 0 < times a ks → 0 < times b ks → Leads edges a b
    pub whole : (a b : Key) → 0 < times a ks → Leads edges a b → Leads edges b a → 0 < times b ks

  -- no path leads from a node of a list to one of a list before it
  abbrev pub LeadOnward : List (List Key) → Type 0
  LeadOnward [] = Unit {0}
  LeadOnward (ks ∷ kss) = ((a b : Key) → 0 < times a ks → 0 < times_in b kss → Leads edges b a → ⊥) × LeadOnward kss
