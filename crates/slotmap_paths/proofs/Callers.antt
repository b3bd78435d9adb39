-- What callers cite: no path costs less than a distance that was found; and with one component at most, each node leads to each other one.
use Rattle.std.proofs.Common.{◌≡◌, ◌<◌, ◌≤◌, ◌∷◌, ◌∙◌, ℕ, List, [], Some, None, length, arith}
use Rattle.std.specs.List.{All}
use Rattle.std.proofs.lemmas.List.Elements.{All-head, All-tail}
use Rattle.std.proofs.lemmas.Option.{none-some, same_Some}
use Rattle.slotmap.specs.Words.{Key, Pairs, get}
use Rattle.slotmap_graph.specs.Parts.{Edges}
use Rattle.slotmap_graph.specs.Search.{Leads}
use Rattle.slotmap_bounded.specs.KeyLists.{times}
use Rattle.slotmap_bounded.proofs.Counts.{one_itself, times_first}
use Rattle.slotmap_paths.specs.Components.{IsComponent, LeadOnward, times_in}
use Rattle.slotmap_paths.specs.Costs.{IsSum}
use Rattle.slotmap_paths.specs.declared.Reached.{Reached}

-- by the clause `least` of `shortest_paths`, for a path to a node
module _ {E : Type 0} (edges : Edges E) (costs : Pairs ℕ) (start x : Key) (found : Pairs Reached)
    (least : (sum : ℕ) → IsSum edges costs start x sum → (r : Reached) × (get found x ≡ Some r) × (r.distance ≤ sum)) (sum : ℕ) (path : IsSum edges costs start x sum) where
  -- the path costs no less than the distance of the node
  pub none_less : (r : Reached) → Some r ≡ get found x → r.distance ≤ sum
  none_less r here = let is = least sum path in rw (same_Some _ _ (here ∙ is.1)) is.2

  -- the node was found
  pub none_missed : None ≡ get found x → ⊥
  none_missed gone = let is = least sum path in none-some is.0 (gone ∙ is.1)

module _ {E : Type 0} (edges : Edges E) where
  -- each node leads to each other one
  pub leads_to_each : (a b : Key) (kss : List (List Key)) → length kss ≤ 1 → All (IsComponent edges) kss → 0 < times_in a kss → 0 < times_in b kss → Leads edges a b
  leads_to_each a b [] few each a_there b_there = absurd (omega (arith, a_there))
  leads_to_each a b (ks ∷ []) few each a_there b_there = (All-head (IsComponent edges) ks [] each).together a b (omega (arith, a_there)) (omega (arith, b_there))
  leads_to_each a b (ks ∷ ls ∷ kss) few each a_there b_there = absurd (omega (arith, few))

  -- where each leads to each other one, there is one component at most
  pub one_at_most : (kss : List (List Key)) → All (IsComponent edges) kss → LeadOnward edges kss
      → ((x y : Key) → 0 < times_in x kss → 0 < times_in y kss → Leads edges x y) → length kss ≤ 1
  one_at_most [] each onward all = omega arith
  one_at_most (ks ∷ []) each onward all = omega arith
  one_at_most ([] ∷ ls ∷ kss) each onward all = absurd (omega (arith, (All-head (IsComponent edges) [] (ls ∷ kss) each).some))
  one_at_most ((x ∷ ks) ∷ [] ∷ kss) each onward all = absurd (omega (arith, (All-head (IsComponent edges) [] kss (All-tail (IsComponent edges) (x ∷ ks) ([] ∷ kss) each)).some))
  one_at_most ((x ∷ ks) ∷ (y ∷ ls) ∷ kss) each onward all =
      let x_there : 0 < times x (x ∷ ks) = (omega (arith, times_first x x ks, one_itself x)) in
      let y_there : 0 < times_in y ((y ∷ ls) ∷ kss) = (omega (arith, times_first y y ls, one_itself y)) in
      absurd (onward.0 x y x_there y_there (all y x (omega (arith, y_there)) (omega (arith, x_there))))
