-- Last edges that lead back to the start: what follows for a node that was found, and a walk back along them.
use Rattle.std.proofs.Common.{◌≡◌, ℕ, zero, suc, ◌+◌, ◌<◌, Some, None, List, [], ◌∷◌, ◌++◌, length, option_map, reverse, refl, sym, ap, ◌∙◌, arith}
use Rattle.std.proofs.lemmas.List.{length-append, reverse-append}
use Rattle.std.proofs.lemmas.Option.{none-some, same_Some}
use Rattle.std.specs.FinMap as map
use Rattle.slotmap.specs.Words.{Key, Pairs, get}
use Rattle.slotmap_graph.specs.Parts.{Edges, ends}
use Rattle.slotmap_graph.specs.Search.{Leads}
use Rattle.slotmap_paths.specs.Costs.{AddUp, AreTraced, ComesBy, GoesBack, IsRoute, IsStep, IsSum, IsTraced, distance, last_edge}
use Rattle.slotmap_paths.specs.declared.Reached.{Reached}
use Rattle.slotmap_paths.proofs.{EdgeSteps.edge_there, EdgeSteps.sum_leads, Settled.traced_comes, Settled.traced_path}

module _ {E : Type 0} (edges : Edges E) (found : Pairs Reached) where
  module _ (costs : Pairs ℕ) (start : Key) (traced : AreTraced edges costs start found) (x : Key) (r : Reached) (is : get found x ≡ Some r) where
    pub traced_sum : IsSum edges costs start x r.distance
    traced_sum = let trace = traced x r is in (trace.0, traced_path (IsStep edges costs) distance last_edge start (get found) trace.0 x r.distance r.by trace.2)

    pub traced_by : ComesBy edges costs start found x r
    traced_by = let trace = traced x r is in traced_comes (IsStep edges costs) distance last_edge start (get found) trace.0 x r.distance r.by trace.2

    pub traced_leads : Leads edges start x
    traced_leads = (traced_sum.0, sum_leads edges costs start traced_sum.0 x r.distance traced_sum.1)

  -- by what the graph and the table say of an edge
  pub goes_back : (k a b c : Key) (r : Reached) → Some (a, c) ≡ option_map ends (map.get edges k) → c ≡ b → get found a ≡ Some r → GoesBack edges found k a b r
  goes_back k a b c r joins same is = let edge = edge_there edges k a c joins in (edge.0, edge.1, edge.2, edge.3 ∙ same, is)

  -- edges were passed on the way back; from here as many lead back to the start as are left
  pub record WalksBack (costs : Pairs ℕ) (start : Key) (far : ℕ) (at : Key) (r : Reached) (passed : List Key) : Type 0 where
    pub sum : ℕ
    pub add_up : AddUp costs (reverse passed) sum
    pub all : far ≡ r.distance + sum
    pub left : ℕ
    pub few : length passed + left < map.len found
    pub trace : IsTraced edges costs start found left at r

  -- an edge is passed, which leads on to where the walk was
  module _ (passed : List Key) (k a at : Key) (r' : Reached) (back : GoesBack edges found k a at r') where
    reversed_on : reverse (passed ++ k ∷ []) ≡ k ∷ reverse passed
    reversed_on = reverse-append passed (k ∷ [])

    pub route_back : (b : Key) → IsRoute edges (reverse passed) at b → IsRoute edges (reverse (passed ++ k ∷ [])) a b
    route_back b route = rw reversed_on (back.0, back.1, back.2, rw back.3 route)

    module _ (costs : Pairs ℕ) (start : Key) (far : ℕ) (r : Reached) (by : r.by ≡ Some k) where
      stepped_back : (left : ℕ) (sum : ℕ) → AddUp costs (reverse passed) sum → far ≡ r.distance + sum → length passed + left < map.len found → IsTraced edges costs start found left at r
          → WalksBack costs start far a r' (passed ++ k ∷ [])
      stepped_back zero sum add_up all few trace = absurd (none-some k (sym trace.2 ∙ by))
      stepped_back (suc n) sum add_up all few trace =
          let edge : trace.0 ≡ k = same_Some _ _ (sym trace.4 ∙ by) in
          let step = trace.6 in
          let same : step.0 ≡ back.0 = same_Some _ _ (sym step.1 ∙ ap (map.get edges) edge ∙ back.1) in
          let node : trace.1 ≡ a = sym step.2 ∙ ap (λ e. e.from) same ∙ back.2 in
          let reached : trace.3 ≡ r' = same_Some _ _ (sym trace.5 ∙ ap (get found) node ∙ back.4) in
          record {
            sum = trace.2 + sum;
            add_up = rw reversed_on (trace.2, sum, rw (← edge) step.4, add_up, refl);
            all = omega (arith, all, trace.7, ap distance reached);
            left = n;
            few = omega (arith, few, length-append passed (k ∷ []));
            trace = rw (← node, ← reached) trace.8;
          }

      pub walk_back : WalksBack costs start far at r passed → WalksBack costs start far a r' (passed ++ k ∷ [])
      walk_back w = stepped_back w.left w.sum w.add_up w.all w.few w.trace

  module _ (costs : Pairs ℕ) (start : Key) (at : Key) (r : Reached) where
    -- where the last edge is there, it leads back, and else the start is reached
    more_left : (k : Key) → r.by ≡ Some k → (left : ℕ) → IsTraced edges costs start found left at r → (0 < left) × (a : Key) × (r' : Reached) × GoesBack edges found k a at r'
    more_left k by zero trace = absurd (none-some k (sym trace.2 ∙ by))
    more_left k by (suc n) trace =
        let edge : trace.0 ≡ k = same_Some _ _ (sym trace.4 ∙ by) in
        let step = trace.6 in (omega arith, trace.1, trace.3, (step.0, rw (← edge) step.1, step.2, step.3, trace.5))

    none_left : r.by ≡ None → (left : ℕ) → IsTraced edges costs start found left at r → (at ≡ start) × (r.distance ≡ 0)
    none_left by zero trace = (trace.0, trace.1)
    none_left by (suc n) trace = absurd (none-some trace.0 (sym by ∙ trace.4))

    module _ (far : ℕ) (passed : List Key) (w : WalksBack costs start far at r passed) where
      pub walks_on : (k : Key) → r.by ≡ Some k → (length passed < map.len found) × (a : Key) × (r' : Reached) × GoesBack edges found k a at r'
      walks_on k by = let more = more_left k by w.left w.trace in (omega (arith, more.0, w.few), more.1, more.2, more.3)

      pub walk_ends : r.by ≡ None → (at ≡ start) × AddUp costs (reverse passed) far
      walk_ends by = let end = none_left by w.left w.trace in (end.0, rw (← (let all : w.sum ≡ far = omega (arith, w.all, end.1) in all)) w.add_up)
