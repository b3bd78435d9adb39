-- The nodes of a scene, level by level from the roots down.
use Rattle.std.proofs.Common.{◌++◌, ◌+◌, ◌<◌, ◌∷◌, ◌≡◌, ◌≤◌}
use Rattle.slotmap_scene.proofs.Common.{Bool, ClimbsTo, GoesByLevel, IsScene, Key, List, Nodes, None, Option, Some, [], ap, append-nil, append_assoc, arith, by_live, children_of, children_of_each}
use Rattle.slotmap_scene.proofs.Common.{cond, eq-zero-or-pos, filter, get_or, has_node, inl, inr, is_parent, is_some, key_live, key_there, keys_once, length, no_more_than, none_of, not, one_other}
use Rattle.slotmap_scene.proofs.Common.{parent_in, parent_of, refl, roots_in, same, same_or_other, suc, sym, take, take-append-le, take_all, take_more, times, times_first, times_joined, zero, ℕ}
use Rattle.slotmap_scene.proofs.Common.{◌∙◌}
use Rattle.std.specs.FinMap as map

same_either_way : (a b : Key) → same a b ≡ same b a
same_either_way a b = grind arith

-- how often a key is among those that pass a test
times_filter : (k : Key) (p : Key → Bool) (ks : List Key) → times k (filter p ks) ≡ cond (p k) (times k ks) 0
times_filter k p [] = grind arith
times_filter k p (q ∷ ks) = elim (same_or_other q k) [
  | inl is ↦ rw is (grind (arith, times_first k k ks, times_first k k (filter p ks), times_filter k p ks))
  | inr other ↦ grind (arith, times_first k q ks, times_first k q (filter p ks), times_filter k p ks, one_other q k other)
]

module _ {T : Type 0} (nodes : Nodes T) where
  roots_times : (k : Key) → times k (roots_in nodes) ≡ cond (not (is_some (parent_of nodes k))) (times k (map.keys nodes)) 0
  roots_times k = times_filter k (λ q. not (is_some (parent_of nodes q))) (map.keys nodes)

  pub listed_root : (k : Key) → 0 < times k (roots_in nodes) → has_node nodes k × (parent_of nodes k ≡ None)
  listed_root k more = (key_live nodes k (grind (arith, roots_times k)), grind (arith, roots_times k))

  root_listed : (k : Key) → has_node nodes k → parent_of nodes k ≡ None → 0 < times k (roots_in nodes)
  root_listed k live root = grind (arith, roots_times k, key_there nodes k live)

-- one more node whose children are listed
each_pushed : {T : Type 0} (nodes : Nodes T) (ks : List Key) (k : Key)
    → children_of_each nodes (ks ++ k ∷ []) ≡ children_of_each nodes ks ++ children_of nodes k
each_pushed nodes [] k = append-nil (children_of nodes k)
each_pushed nodes (q ∷ ks) k = grind (arith, each_pushed nodes ks k, append_assoc (children_of nodes q) (children_of_each nodes ks) (children_of nodes k))

part_of_keys : (k : Key) (i : ℕ) (ks : List Key) → times k (take i ks) ≤ times k ks
part_of_keys k zero ks = omega arith
part_of_keys k (suc i) [] = omega arith
part_of_keys k (suc i) (q ∷ ks) = let rest = part_of_keys k i ks in let a = times_first k q ks in let b = times_first k q (take i ks) in omega arith

-- the loop over the list, whose nodes before this position have their children in it
abbrev pub Levels : {T : Type 0} → Nodes T → ℕ → List Key → Type 0
Levels nodes at keys = keys ≡ roots_in nodes ++ children_of_each nodes (take at keys)

-- at the end of the list
pub levels_done : {T : Type 0} (nodes : Nodes T) (at : ℕ) (keys : List Key) → Levels nodes at keys → length keys ≤ at → GoesByLevel nodes keys
levels_done nodes at keys is past = is ∙ ap (λ ks. roots_in nodes ++ children_of_each nodes ks) (take_all at keys past)

module _ {T : Type 0} (nodes : Nodes T) (scene : IsScene nodes) where
  -- how often a key is among the children of some nodes
  child_times : (k p : Key) → parent_of nodes k ≡ Some p → (ks : List Key) → times k (children_of_each nodes ks) ≡ times p ks
  child_times k p up [] = refl
  child_times k p up (q ∷ ks) =
      let own : times k (children_of nodes q) ≡ same p q = scene.listed q k ∙ rw up refl in
      omega (arith, times_joined k (children_of nodes q) (children_of_each nodes ks), same_either_way p q, child_times k p up ks, times_first p q ks)

  orphan_times : (k : Key) → parent_of nodes k ≡ None → (ks : List Key) → times k (children_of_each nodes ks) ≡ 0
  orphan_times k root [] = refl
  orphan_times k root (q ∷ ks) =
      let own : times k (children_of nodes q) ≡ 0 = scene.listed q k ∙ rw root refl in
      omega (arith, times_joined k (children_of nodes q) (children_of_each nodes ks), orphan_times k root ks)

  -- a list of the roots and of the children of those at the front
  module _ (at : ℕ) (keys : List Key) (is : Levels nodes at keys) where
    counted : (k : Key) → times k keys ≡ times k (roots_in nodes) + times k (children_of_each nodes (take at keys))
    counted k = ap (times k) is ∙ times_joined k (roots_in nodes) (children_of_each nodes (take at keys))

    few_up : (n : ℕ) (k : Key) → ClimbsTo nodes n k → times k keys ≤ 1
    few_up zero k leads = grind (arith, counted k, orphan_times k leads.1 (take at keys), roots_times nodes k, keys_once nodes k)
    few_up (suc n) k leads = grind (arith, counted k, roots_times nodes k, leads.1.1, child_times k leads.0 leads.1.1 (take at keys), part_of_keys leads.0 at keys, few_up n leads.0 leads.1.2)

    pub levels_live : (k : Key) → 0 < times k keys → has_node nodes k
    levels_live k more = by_live nodes k (has_node nodes k) (λ there. there)
        (λ gone. (listed_root nodes k (omega (arith, counted k, orphan_times k (ap parent_in (none_of (map.get nodes k) gone)) (take at keys)))).0)

    pub levels_once : (k : Key) → times k keys ≤ 1
    levels_once k = elim (eq-zero-or-pos (times k keys)) [
      | inl none ↦ omega arith
      | inr some ↦ (let up = scene.tree k (levels_live k some) in few_up up.0 k up.1)
    ]

    pub levels_long : length keys ≤ map.len nodes
    levels_long = no_more_than keys nodes levels_once levels_live

    -- at its end all nodes are in it
    module _ (past : length keys ≤ at) where
      listed_up : (n : ℕ) (k : Key) → ClimbsTo nodes n k → 0 < times k keys
      listed_up zero k leads = omega (arith, counted k, root_listed nodes k leads.0 leads.1)
      listed_up (suc n) k leads = grind (arith, counted k, child_times k leads.0 leads.1.1 (take at keys), take_all at keys past, listed_up n leads.0 leads.1.2)

      pub levels_all : (k : Key) → has_node nodes k → 0 < times k keys
      levels_all k live = let up = scene.tree k live in listed_up up.0 k up.1

    -- the node at this position has its children put behind it
    pub going_on : (k : Key) → at < length keys → k ≡ get_or keys at k → (more : List Key) → more ≡ keys ++ children_of nodes k → Levels nodes (at + 1) more
    going_on k inside here more more_is =
        let first : take (at + 1) more ≡ take at keys ++ k ∷ [] =
        ap (take (at + 1)) more_is ∙ take-append-le (at + 1) keys (children_of nodes k) (omega arith)
        ∙ take_more keys at k inside ∙ ap (λ q. take at keys ++ q ∷ []) (sym here) in
        more_is ∙ ap (λ l. l ++ children_of nodes k) is ∙ append_assoc (roots_in nodes) (children_of_each nodes (take at keys)) (children_of nodes k)
        ∙ sym (ap (λ l. roots_in nodes ++ l) (ap (children_of_each nodes) first ∙ each_pushed nodes (take at keys) k))

-- a key whose parent is known by how often it is listed
pub parent_known : (o : Option Key) (p : Key) → 0 < is_parent o p → o ≡ Some p
parent_known None p more = absurd (omega arith)
parent_known (Some q) p more = grind arith
