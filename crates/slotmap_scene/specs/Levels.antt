-- All nodes of a scene, level by level: the roots, their children, the children of these, and so on.
use Rattle.std.specs.Prelude.{◌≡◌, List, [], ◌∷◌, ◌++◌, map as list_map}
use Rattle.std.specs.List.{All}
use Rattle.slotmap.specs.Words.{Key}
use Rattle.slotmap_scene.specs.Node.{Nodes}
use Rattle.slotmap_scene.specs.Above.{roots_in}
use Rattle.slotmap_scene.specs.Family.{children_of}
use Rattle.slotmap_scene.specs.WorldValue.{IsWorldOf}

-- the keys of pairs, in their order
abbrev pub keys_of_pairs : {K W : Type 0} → (K → Key) → List (K × W) → List Key
keys_of_pairs data_of pairs = list_map (λ e. data_of e.0) pairs

-- each of these pairs has a node, and its transform in the coordinates of its root
abbrev pub AreWorlds : {K T W : Type 0} → (K → Key) → (W → W → W) → (T → W) → Nodes T → List (K × W) → Type 0
AreWorlds data_of under of nodes pairs = All (λ e. IsWorldOf under of nodes (data_of e.0) e.1) pairs

module _ {T : Type 0} where
  -- the children of each of these nodes, in turn
  abbrev pub children_of_each : Nodes T → List Key → List Key
  children_of_each nodes [] = []
  children_of_each nodes (k ∷ ks) = children_of nodes k ++ children_of_each nodes ks

  -- first the roots, by ascending index, and behind them the children of each node that is listed, in turn
  abbrev pub GoesByLevel : Nodes T → List Key → Type 0
  GoesByLevel nodes keys = keys ≡ roots_in nodes ++ children_of_each nodes keys
