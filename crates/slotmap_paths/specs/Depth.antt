-- The order in which a depth first search leaves the nodes.
use Rattle.std.specs.Prelude.{◌≡◌, ◌<◌, ◌⊎◌, Some, cond, List, [], ◌∷◌}
use Rattle.std.specs.FinMap as map
use Rattle.slotmap.specs.Words.{Key}
use Rattle.slotmap_bounded.specs.KeyLists.{is_key, times}
use Rattle.slotmap_graph.specs.Parts.{Edges, SeenEdge}
use Rattle.slotmap_graph.specs.Search.{Leads}

-- what is behind a key in a list; where the key isn't in it, nothing
abbrev pub keys_behind : Key → List Key → List Key
keys_behind k [] = []
keys_behind k (q ∷ ks) = cond (is_key q k) ks (keys_behind k ks)

-- where a path leads from a node to one behind it, a path leads back, or one leads to a node that is behind both
abbrev pub IsPostOrder : {E : Type 0} → Edges E → List Key → Type 0
IsPostOrder edges ks = (a b : Key) → 0 < times b (keys_behind a ks) → Leads edges a b
    → Leads edges b a ⊎ ((c : Key) × (0 < times c (keys_behind b ks)) × Leads edges a c)

-- each edge begins behind the node where it ends
abbrev pub GoesBackward : {E : Type 0} → Edges E → List Key → Type 0
GoesBackward {E} edges ks = (k : Key) (e : SeenEdge E) → map.get edges k ≡ Some e → 0 < times e.from (keys_behind e.to ks)
