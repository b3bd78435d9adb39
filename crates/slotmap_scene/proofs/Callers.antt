-- What callers of a scene cite: of parents and of what is within a node, where a node was moved, where children are taken one by one, and of a loop below a node.
use Rattle.std.proofs.Common.{◌++◌, ◌+◌, ◌<◌, ◌↔◌, ◌∷◌, ◌≡◌, ◌≢◌}
use Rattle.slotmap_scene.proofs.Common.{IsMoved, IsScene, IsWithin, Key, List, Nodes, Option, SiblingSide, Some, StepsTo, [], ap, arith, beside_first, children_in, children_of, forgets, inl, inr}
use Rattle.slotmap_scene.proofs.Common.{is_itself, length, option_map, parent_of, placed, refl, same_or_other, suc, sym, times, times_first, times_gone, without, without_none, without_pushed}
use Rattle.slotmap_scene.proofs.Common.{zero, ℕ, ◌∙◌}
use Rattle.slotmap_scene.proofs.Moved.{forgot, listed_once}
use Rattle.std.specs.FinMap as map
-- a node with a parent exists, and so does the parent; no node is above itself; and whether a node is within another one is up to its parent
pub use Rattle.slotmap_scene.proofs.Climbs.{has_parent, no_cycle, parent_there, within_up}
-- a node without a first child has none
pub use Rattle.slotmap_scene.proofs.Walking.{none_first}
-- a loop along the nodes below a node that writes them on its way, and the nodes below one where a value was changed
pub use Rattle.slotmap_scene.proofs.BelowLoops.{GoesBelow, below_changed, below_end, below_here, below_less, below_next, below_other}
pub use Rattle.slotmap_scene.proofs.BelowLoops.{below_others, below_start, below_still, left_below, value_unwritten, value_written}

-- for `using`
pub ruleset families = (without_pushed)

-- but for k itself, a list to which k comes keeps its order
module _ (side : SiblingSide) (s k : Key) where
  first_away : (q : Key) (qs : List Key) → without k (beside_first side k q qs) ≡ without k (q ∷ qs)
  first_away q qs = grind (arith, is_itself k)

  pub placed_away : (ks : List Key) → without k (placed side s k ks) ≡ without k ks
  placed_away [] = grind (arith, is_itself k)
  placed_away (q ∷ qs) = grind (arith, is_itself k, placed_away qs, first_away q qs)

pub pushed_away : (k : Key) (ks : List Key) → without k (ks ++ k ∷ []) ≡ without k ks
pushed_away k [] = grind (arith, is_itself k)
pushed_away k (q ∷ qs) = grind (arith, pushed_away k qs)

twice : (k : Key) (ks : List Key) → without k (without k ks) ≡ without k ks
twice k ks = without_none k (without k ks) (times_gone k ks)

-- where k moves, all other nodes keep their order among their siblings
pub order_kept : {T : Type 0} (old new : Nodes T) (k p : Key) (put : List Key → List Key) → ((ks : List Key) → without k (put ks) ≡ without k ks) → IsMoved old new k (Some p) put
    → (q : Key) → without k (children_of new q) ≡ without k (children_of old q)
order_kept old new k p put away moved q = elim (same_or_other q p) [
  | inl is ↦ ap (without k) (moved.children_are q (ap Some (sym is))) ∙ away (without k (children_of old q)) ∙ twice k (children_of old q)
  | inr other ↦ ap (without k) (moved.other_children q (λ e. other (cc))) ∙ twice k (children_of old q)
]

-- where all nodes but k keep their parents, what is within k stays within it
within_still : {T : Type 0} (old new : Nodes T) (k : Key) → ((q : Key) → q ≢ k → parent_of new q ≡ parent_of old q) → (n : ℕ) (q : Key) → StepsTo old n q k → IsWithin new q k
within_still old new k parents zero q is = (zero, is)
within_still old new k parents (suc n) q steps = elim (same_or_other q k) [
  | inl is ↦ (zero, is)
  | inr other ↦ (let above = within_still old new k parents n steps.0 steps.1.1 in (suc above.0, (steps.0, (parents q other ∙ steps.1.0, above.1))))
]

-- a node moves with all that is within it, and nothing else comes to be within it
pub subtree_kept : {T : Type 0} (old new : Nodes T) (k : Key) {parent : Option Key} {put : List Key → List Key} → IsMoved old new k parent put
    → (q : Key) → IsWithin old q k ↔ IsWithin new q k
subtree_kept old new k moved q = (
  λ within. within_still old new k moved.parents within.0 q within.1,
  λ within. within_still new old k (λ x other. sym (moved.parents x other)) within.0 q within.1,
)

-- a list without a key is shorter by as many as it had of it
shorter_without : (k : Key) (ks : List Key) → length (without k ks) + times k ks ≡ length ks
shorter_without k [] = refl
shorter_without k (q ∷ ks) = grind (arith, times_first k q ks, shorter_without k ks)

-- in a loop that takes the children of p one by one, there are fewer after each turn
module _ {T : Type 0} {old : Nodes T} (scene : IsScene old) (new : Nodes T) (k p : Key) (child : parent_of old k ≡ Some p) where
  fewer : children_of new p ≡ without k (children_of old p) → length (children_of new p) < length (children_of old p)
  fewer is = omega (arith, ap length is, shorter_without k (children_of old p), listed_once old scene.listed p k child)

  -- where k was removed with its subtree
  pub removed_fewer : ((q : Key) → (IsWithin old q k → ⊥) → map.get new q ≡ option_map (forgets k) (map.get old q)) → length (children_of new p) < length (children_of old p)
  removed_fewer others = fewer (ap children_in (others p (no_cycle old scene.tree k p child)) ∙ forgot k children_in (without k) refl (λ n. refl) (map.get old p))

  -- where k was moved away
  pub moved_fewer : {parent : Option Key} {put : List Key → List Key} → IsMoved old new k parent put → parent ≢ Some p → length (children_of new p) < length (children_of old p)
  moved_fewer moved away = fewer (moved.other_children p away)
