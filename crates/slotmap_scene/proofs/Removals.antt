-- How a node is removed with all that is below it: down by the last child as far as a leaf, which goes, and on from its parent.
use Rattle.std.proofs.Common.{◌*◌, ◌++◌, ◌+◌, ◌-◌, ◌<◌, ◌∷◌, ◌≡◌, ◌≢◌, ◌≤◌}
use Rattle.slotmap_bounded.proofs.Linking.{last_in}
use Rattle.slotmap_scene.proofs.Common.{IsMoved, IsScene, IsTree, IsWithin, Key, Node, Nodes, None, Option, Some, StepsTo, [], ap, arith, by_live, children_in, children_of, exact_keys, forgets}
use Rattle.slotmap_scene.proofs.Common.{has_node, inl, inr, is_some, keys, keys_total, keys_up, lacks_node, last_or, len_alike, len_removed, length, option_map, parent_in, parent_of, refl}
use Rattle.slotmap_scene.proofs.Common.{same_or_other, subst, suc, sym, times, times_pushed, value_of, without, without_child, zero, ℕ, ◌∙◌}
use Rattle.slotmap_scene.proofs.Climbs.{alone_within, get_removed, has_parent, outside, parent_there, step_up, within_up}
use Rattle.slotmap_scene.proofs.Moved.{forgot, forgotten, left_get, left_of, listed_never, listed_once, listed_parent, moved_listed}
use Rattle.std.specs.FinMap as map

-- the walk ends: each step down goes deeper, and each step up removes a node
module _ {T : Type 0} (old : Nodes T) where
  abbrev depth_of : Key → ℕ
  depth_of k = length (keys_up old (map.len old) (Some k))

  abbrev pub to_do : Nodes T → Key → ℕ
  to_do now at = 2 * map.len now + (map.len old - depth_of at)

  few_up : (n : ℕ) (o : Option Key) → length (keys_up old n o) ≤ n
  few_up zero o = omega arith
  few_up (suc n) None = omega arith
  few_up (suc n) (Some k) = let rest = few_up n (parent_of old k) in omega arith

  deeper : IsTree old → (c p : Key) → parent_of old c ≡ Some p → depth_of c ≡ suc (depth_of p)
  deeper tree c p is = ap length (step_up old c (tree c (has_parent old c p is))) ∙ ap (λ o. suc (length (keys_up old (map.len old) o))) is

  down_less : IsTree old → (now : Nodes T) (at child : Key) → parent_of old child ≡ Some at → to_do now child < to_do now at
  down_less tree now at child is = let below = deeper tree child at is in let few = few_up (map.len old) (Some child) in omega arith

  up_less : IsTree old → (now new : Nodes T) (at p : Key) → parent_of old at ≡ Some p → map.len new + 1 ≡ map.len now → to_do new p < to_do now at
  up_less tree now new at p is less = let below = deeper tree at p is in omega arith

-- a leaf goes
module _ {T : Type 0} (nodes : Nodes T) (scene : IsScene nodes) (k : Key) (live : has_node nodes k) (leaf : children_of nodes k ≡ []) where
  abbrev left : Nodes T
  left = without_child nodes (parent_of nodes k) k

  abbrev pruned : Nodes T
  pruned = map.remove left k

  pruned_len : map.len pruned + 1 ≡ map.len nodes
  pruned_len = len_removed keys_total exact_keys left k (left_of scene k is_some (λ b. b) refl (λ n. refl) k ∙ live) ∙ len_alike left nodes (left_of scene k is_some (λ b. b) refl (λ n. refl))

  pruned_here : map.get pruned k ≡ None
  pruned_here = grind (arith, keys)

  pruned_get : (q : Key) → q ≢ k → map.get pruned q ≡ option_map (forgets k) (map.get nodes q)
  pruned_get q other = get_removed left k q other ∙ left_get scene k q

  pruned_of : {X : Type 0} (P : Option (Node T) → X) (f : X → X) → P None ≡ f (P None) → ((n : Node T) → P (Some (forgets k n)) ≡ f (P (Some n))) → (q : Key) → q ≢ k
      → P (map.get pruned q) ≡ f (P (map.get nodes q))
  pruned_of P f none some q other = ap P (pruned_get q other) ∙ forgot k P f none some (map.get nodes q)

  -- no node has it as its parent
  pub childless : (q : Key) → parent_of nodes q ≡ Some k → ⊥
  childless q is = let one = listed_once nodes scene.listed k q is in let none = ap (times q) leaf in absurd (omega arith)

  pruned_keys : (q : Key) → q ≢ k → map.contains_key pruned q ≡ map.contains_key nodes q
  pruned_keys = pruned_of is_some (λ b. b) refl (λ n. refl)

  pruned_parents : (q : Key) → q ≢ k → parent_of pruned q ≡ parent_of nodes q
  pruned_parents = pruned_of parent_in (λ o. o) refl (λ n. refl)

  pruned_moved : IsMoved nodes pruned k None (λ ks. ks ++ k ∷ [])
  pruned_moved = record {
    parent_is = ap parent_in pruned_here;
    parents = pruned_parents;
    children_are = λ p is. absurd (cc);
    other_children = λ q _. elim (same_or_other q k) [
      | inl is ↦ rw is (ap children_in pruned_here ∙ sym (ap (without k) leaf))
      | inr other ↦ pruned_of children_in (without k) refl (λ n. refl) q other
    ];
  }

  pruned_other : (q : Key) → has_node pruned q → q ≢ k
  pruned_other q there is = let gone = ap is_some pruned_here in let h = subst (has_node pruned) is there in cc

  pub pruned_scene : IsScene pruned
  pruned_scene = record {
    tree = λ q there. (
        let other = pruned_other q there in
        let up = scene.tree q (sym (pruned_keys q other) ∙ there) in
        (up.0, outside nodes pruned k pruned_keys pruned_parents up.0 q (λ w. other (alone_within nodes k childless w.0 q w.1)) up.1));
    listed = moved_listed nodes pruned scene k None (λ ks. ks ++ k ∷ []) pruned_moved (λ x ks. times_pushed x ks k);
  }

module _ {T : Type 0} where
  -- what stands while a node is removed with all that is below it: the walk is at a node below it, and of the others none has changed
  pub record Removing (old now : Nodes T) (root at : Key) : Type 0 where
    pub scene : IsScene now
    pub kept : (k : Key) → has_node now k → (parent_of now k ≡ parent_of old k) × (value_of now k ≡ value_of old k)
    pub apart : (k : Key) → (IsWithin old k root → ⊥) → map.get now k ≡ map.get old k
    pub here : has_node now at
    pub within : IsWithin old at root

  pub removing_start : (old : Nodes T) (root : Key) → IsScene old → has_node old root → Removing old old root root
  removing_start old root scene live = record { scene = scene; kept = λ k there. (refl, refl); apart = λ k out. refl; here = live; within = (zero, refl) }

  module _ (old now : Nodes T) (root at : Key) (removing : Removing old now root at) where
    was_parent : (k p : Key) → parent_of now k ≡ Some p → parent_of old k ≡ Some p
    was_parent k p is = sym (removing.kept k (has_parent now k p is)).0 ∙ is

    -- down to the last child
    module _ (child : Key) (last : last_or (children_of now at) None ≡ Some child) where
      child_of : parent_of now child ≡ Some at
      child_of = listed_parent now removing.scene.listed at child (last_in (children_of now at) child last)

      pub goes_down : Removing old now root child
      goes_down = record {
        scene = removing.scene;
        kept = removing.kept;
        apart = removing.apart;
        here = has_parent now child at child_of;
        within = (suc removing.within.0, (at, (was_parent child at child_of, removing.within.1)));
      }

      pub down_smaller : IsTree old → to_do old now child < to_do old now at
      down_smaller tree = down_less old tree now at child (was_parent child at child_of)

    -- the leaf goes
    module _ (leaf : children_of now at ≡ []) where
      abbrev after : Nodes T
      after = pruned now removing.scene at removing.here leaf

      kept_after : (k : Key) → has_node after k → (parent_of after k ≡ parent_of old k) × (value_of after k ≡ value_of old k)
      kept_after k there =
          let other = pruned_other now removing.scene at removing.here leaf k there in
          let was = removing.kept k (sym (pruned_keys now removing.scene at removing.here leaf k other) ∙ there) in (
            pruned_parents now removing.scene at removing.here leaf k other ∙ was.0,
            pruned_of now removing.scene at removing.here leaf (option_map (λ n. n.value)) (λ o. o) refl (λ n. refl) k other ∙ was.1,
          )

      -- and up to its parent
      module _ (p : Key) (is : parent_of now at ≡ Some p) where
        pub up_smaller : IsTree old → to_do old after p < to_do old now at
        up_smaller tree = up_less old tree now after at p (was_parent at p is) (pruned_len now removing.scene at removing.here leaf)

        module _ (below : at ≢ root) where
          parent_within : IsWithin old p root
          parent_within = (within_up old at p root (was_parent at p is) below).0 removing.within

          apart_after : (k : Key) → (IsWithin old k root → ⊥) → map.get after k ≡ map.get old k
          apart_after k out =
              let never = listed_never now removing.scene.listed k at (λ own. out (let same : p ≡ k = (let h = sym is ∙ own in cc) in subst (λ x. IsWithin old x root) same parent_within)) in
              pruned_get now removing.scene at removing.here leaf k (λ same. out (subst (λ x. IsWithin old x root) (sym same) removing.within))
              ∙ forgotten at (map.get now k) never ∙ removing.apart k out

          pub goes_up : Removing old after root p
          goes_up = record {
            scene = pruned_scene now removing.scene at removing.here leaf;
            kept = kept_after;
            apart = apart_after;
            here = pruned_keys now removing.scene at removing.here leaf p (λ same. childless now removing.scene at removing.here leaf at (is ∙ ap Some same))
                ∙ parent_there now removing.scene.tree at p is;
            within = parent_within;
          }

      -- all that was below the node is gone, and last the node itself
      module _ (end : at ≡ root) where
        last_one : (i : ℕ) (k : Key) → StepsTo old i k root → has_node now k → k ≡ at
        last_one zero k same there = same ∙ sym end
        last_one (suc i) k steps there =
            let own = (removing.kept k there).0 ∙ steps.1.0 in
            let above = last_one i steps.0 steps.1.1 (parent_there now removing.scene.tree k steps.0 own) in
            absurd (childless now removing.scene at removing.here leaf k (own ∙ ap Some above))

        pub all_removed : (k : Key) → IsWithin old k root → lacks_node after k
        all_removed k w = by_live after k _ (λ there. (
            let other = pruned_other now removing.scene at removing.here leaf k there in
            absurd (other (last_one w.0 k w.1 (sym (pruned_keys now removing.scene at removing.here leaf k other) ∙ there))))) (λ gone. gone)

        pub others_left : (k : Key) → (IsWithin old k root → ⊥) → map.get after k ≡ option_map (forgets root) (map.get old k)
        others_left k out = rw (← end) (pruned_get now removing.scene at removing.here leaf k (λ same. out (zero, same ∙ end)) ∙ ap (option_map (forgets at)) (removing.apart k out))
