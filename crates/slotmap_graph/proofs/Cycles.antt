-- What callers cite of paths and cycles: two paths are one, and where no path leads back, one more edge closes no cycle.
use Rattle.slotmap_graph.proofs.Common.{ap, sym, ◌∙◌, refl, inl, inr, zero, suc, ℕ, Some, ⊎_elim, arith, Key, SeenEdge, Edges, from, to, HasEdge, Leads, LeadsBy, HasCycle}
use Rattle.slotmap_graph.proofs.Common.{same_or_other, get-insert_here, get-insert_other}
use Rattle.std.proofs.Common.{◌≡◌, ◌⊎◌}
use Rattle.std.specs.FinMap as map

module _ {E : Type 0} (edges : Edges E) where
  pub leads_further : (a b c : Key) → Leads edges a b → HasEdge edges b c → Leads edges a c
  leads_further a b c way join = (suc way.0, (b, way.1, join))

  joined_ways : (a b : Key) → Leads edges a b → (n : ℕ) (c : Key) → LeadsBy edges n b c → Leads edges a c
  joined_ways a b way zero c is = rw (← is) way
  joined_ways a b way (suc n) c path = leads_further a path.0 c (joined_ways a b way n path.0 path.1) path.2

  -- a path, and one more behind it
  pub leads_on : (a b c : Key) → Leads edges a b → Leads edges b c → Leads edges a c
  leads_on a b c way next = joined_ways a b way next.0 c next.1

module _ {E : Type 0} (old new : Edges E) (k : Key) (e : SeenEdge E) (is : new ≡ map.insert old k e) where
  edge_before : (q : Key) (d : SeenEdge E) → map.get new q ≡ Some d → (map.get old q ≡ Some d) ⊎ (d ≡ e)
  edge_before q d there = elim (same_or_other q k) [
    | inl at ↦ inr (grind (arith, at, is, there, get-insert_here old k))
    | inr other ↦ inl (grind (arith, is, there, get-insert_other old k e q other))
  ]

  -- there were paths to the new edge and on from it
  abbrev GoesBy : Key → Key → Type 0
  GoesBy a b = Leads old a e.from × Leads old e.to b

  -- each path either is one of before, or goes by the new edge
  by_or_before : (n : ℕ) (a b : Key) → LeadsBy new n a b → Leads old a b ⊎ GoesBy a b
  by_or_before zero a b at = inl (zero, at)
  by_or_before (suc n) a b path = let c = path.0 in let way = by_or_before n a c path.1 in let join = path.2 in
      elim (edge_before join.0 join.1 join.2) [
        | inl was ↦ (let goes : HasEdge old c b = (join.0, join.1, was, join.3, join.4) in
            ⊎_elim (λ (led : Leads old a c). inl (leads_further old a c b led goes)) (λ (by : GoesBy a c). inr (by.0, leads_further old e.to c b by.1 goes)) way)
        | inr at ↦ (let start : c ≡ e.from = sym join.3 ∙ ap from at in
            inr (⊎_elim (λ (led : Leads old a c). rw (← start) led) (λ (by : GoesBy a c). by.0) way, (zero, ap to (sym at) ∙ join.4)))
      ]

  -- where no path led from its end to its start, and there was no cycle, there is none
  pub no_cycle_closed : (Leads old e.to e.from → ⊥) → (HasCycle old → ⊥) → HasCycle new → ⊥
  no_cycle_closed forward none cycle =
      let d = cycle.1.0 in
      let way = by_or_before cycle.1.2.0 d.to d.from cycle.1.2.1 in
      elim (edge_before cycle.0 d cycle.1.1) [
        | inl was ↦ ⊎_elim (λ (led : Leads old d.to d.from). none (cycle.0, (d, was, led)))
            (λ (by : GoesBy d.to d.from). forward (leads_on old e.to d.to e.from (leads_further old e.to d.from d.to by.1 (cycle.0, d, was, refl, refl)) by.0)) way
        | inr at ↦ ⊎_elim (λ (led : Leads old d.to d.from). forward (rw (← ap to at, ← ap from at) led)) (λ (by : GoesBy d.to d.from). forward (rw (← ap to at) by.0)) way
      ]
