-- The two ends of a list of children, the keys beside another one in it, and what nodes these are.
use Rattle.std.proofs.Common.{◌<◌, ◌∷◌, ◌≡◌, ◌⊎◌}
use Rattle.slotmap_bounded.proofs.Linking.{last_in}
use Rattle.slotmap_scene.proofs.Common.{IsScene, Key, List, Nodes, None, Option, Some, [], ap, arith, behind, children_of, children_under, cond, false, first_or, has_node, in_front, inl, inr, is_key}
use Rattle.slotmap_scene.proofs.Common.{last_or, one_itself, parent_of, same, same_Some, times, times_first, true}
use Rattle.slotmap_scene.proofs.Climbs.{has_parent}
use Rattle.slotmap_scene.proofs.Moved.{listed_parent}

-- a key at the front of a list is in it
at_front : (q s : Key) (ks : List Key) → q ≡ s → 0 < times s (q ∷ ks)
at_front q s ks is = omega (arith, times_first s q ks, one_itself s, ap (λ x. same x s) is)

first_listed : (s : Key) (ks : List Key) → first_or ks None ≡ Some s → 0 < times s ks
first_listed s [] is = absurd (cc)
first_listed s (q ∷ ks) is = at_front q s ks (same_Some q s is)

-- and so is the key behind another one, and the key in front of it
pub behind_listed : (k s : Key) (ks : List Key) → behind k ks ≡ Some s → 0 < times s ks
behind_listed k s [] is = absurd (cc)
behind_listed k s (q ∷ ks) is = elim (is_key q k) as (λ b. cond b (first_or ks None) (behind k ks) ≡ Some s → 0 < times s (q ∷ ks)) [
  | true ↦ λ at. omega (arith, times_first s q ks, first_listed s ks at)
  | false ↦ λ at. omega (arith, times_first s q ks, behind_listed k s ks at)
] is

in_front_or : (other : Option Key) (k s : Key) (ks : List Key) → in_front other k ks ≡ Some s → (other ≡ Some s) ⊎ (0 < times s ks)
in_front_or other k s [] is = absurd (cc)
in_front_or other k s (q ∷ ks) is = elim (is_key q k) as (λ b. cond b other (in_front (Some q) k ks) ≡ Some s → (other ≡ Some s) ⊎ (0 < times s (q ∷ ks))) [
  | true ↦ λ at. inl at
  | false ↦ λ at. inr (elim (in_front_or (Some q) k s ks at) [
    | inl here ↦ at_front q s ks (same_Some q s here)
    | inr more ↦ omega (arith, times_first s q ks)
  ])
] is

pub in_front_listed : (k s : Key) (ks : List Key) → in_front None k ks ≡ Some s → 0 < times s ks
in_front_listed k s ks is = elim (in_front_or None k s ks is) [ inl none ↦ absurd (cc) | inr more ↦ more ]

module _ {T : Type 0} {nodes : Nodes T} (scene : IsScene nodes) where
  -- the first and the last child of a node have it as their parent
  pub first_parent : (p s : Key) → first_or (children_of nodes p) None ≡ Some s → parent_of nodes s ≡ Some p
  first_parent p s is = listed_parent nodes scene.listed p s (first_listed s (children_of nodes p) is)

  pub last_parent : (p s : Key) → last_or (children_of nodes p) None ≡ Some s → parent_of nodes s ≡ Some p
  last_parent p s is = listed_parent nodes scene.listed p s (last_in (children_of nodes p) s is)

  -- a key among the children of a node's parent is a node, with the same parent
  pub under_parent : (o : Option Key) (s : Key) → 0 < times s (children_under nodes o) → parent_of nodes s ≡ o
  under_parent None s more = absurd (omega arith)
  under_parent (Some p) s more = listed_parent nodes scene.listed p s more

  pub under_live : (o : Option Key) (s : Key) → 0 < times s (children_under nodes o) → has_node nodes s
  under_live None s more = absurd (omega arith)
  under_live (Some p) s more = has_parent nodes s p (under_parent (Some p) s more)
