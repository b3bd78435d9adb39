-- A list of nodes, each with its transform in the coordinates of its root.
use Rattle.std.proofs.Common.{◌++◌, ◌<◌, ◌∷◌, ◌≡◌}
use Rattle.slotmap_scene.proofs.Common.{All, All-head, All-push, All-tail, AreWorlds, IsComposed, IsWorldOf, Joins, Key, List, Nodes, [], arith, has_node, inl, inr, keys_of_pairs, one_other}
use Rattle.slotmap_scene.proofs.Common.{same_or_other, subst, times, times_first}
use Rattle.slotmap_scene.proofs.Worlds.{one_world_of, path_live, world_composed}

module _ {K T W : Type 0} (data_of : K → Key) (under : W → W → W) (of : T → W) (nodes : Nodes T) where
  abbrev IsPlaced : K × W → Type 0
  IsPlaced e = IsWorldOf under of nodes (data_of e.0) e.1

  -- one more pair with its transform
  pub worlds_pushed : (xs new : List (K × W)) (k : K) (w : W) → new ≡ xs ++ (k, w) ∷ [] → AreWorlds data_of under of nodes xs
      → IsWorldOf under of nodes (data_of k) w → AreWorlds data_of under of nodes new
  worlds_pushed xs new k w is each own = rw is (All-push IsPlaced xs (k, w) each own)

  -- where transforms join, each is what it comes to on the way up too
  pub worlds_composed : (pairs : List (K × W)) → Joins under → AreWorlds data_of under of nodes pairs
      → All (λ e. IsComposed under of nodes (data_of e.0) e.1) pairs
  worlds_composed pairs joins each = grind (arith, world_composed)

  -- what holds of each transform that is listed holds of that of each node, if all nodes are listed
  module _ (P : W → Type 0) (k : Key) (w : W) (world : IsWorldOf under of nodes k w) where
    listed_world : (pairs : List (K × W)) → AreWorlds data_of under of nodes pairs → All (λ e. P e.1) pairs → 0 < times k (keys_of_pairs data_of pairs) → P w
    listed_world [] worlds holds there = absurd (omega arith)
    listed_world (e ∷ es) worlds holds there = elim (same_or_other (data_of e.0) k) [
      | inl is ↦
          let own = subst (λ q. IsWorldOf under of nodes q e.1) is (All-head IsPlaced e es worlds) in
          subst P (one_world_of nodes under of k e.1 w own world) (All-head (λ e. P e.1) e es holds)
      | inr other ↦
          let first = times_first k (data_of e.0) (keys_of_pairs data_of es) in
          let none = one_other (data_of e.0) k other in
          listed_world es (All-tail IsPlaced e es worlds) (All-tail (λ e. P e.1) e es holds) (omega arith)
    ]

    pub each_world : (pairs : List (K × W)) → AreWorlds data_of under of nodes pairs
        → ((q : Key) → has_node nodes q → 0 < times q (keys_of_pairs data_of pairs)) → All (λ e. P e.1) pairs → P w
    each_world pairs worlds all holds = listed_world pairs worlds holds (all k (path_live nodes k (world.own ∷ world.above) world.path))
