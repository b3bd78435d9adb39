-- The order of a depth first search, as nodes are opened and left.
use Rattle.std.proofs.Common.{◌≡◌, ℕ, zero, suc, ◌+◌, ◌<◌, ◌⊎◌, true, if◌then◌else◌, List, [], ◌∷◌, ◌++◌, append_assoc, refl, sym, ap, inl, inr, arith}
use Rattle.slotmap.specs.Words.{Key, contains_key}
use Rattle.slotmap.proofs.Callers.{same_or_other}
use Rattle.slotmap_bounded.specs.KeyLists.{times}
use Rattle.slotmap_bounded.proofs.Counts.{one_other, times_pushed}
use Rattle.slotmap_graph.specs.Parts.{Edges}
use Rattle.slotmap_graph.specs.Search.{HasNext, Leads, LeadsBy}
use Rattle.slotmap_paths.specs.Deepening.{Found, OrdersSoFar}
use Rattle.slotmap_paths.proofs.CutLists.{behind_gone, behind_kept, behind_more}

module _ {E : Type 0} (edges : Edges E) (left opened : List Key) where
  -- a path from a node that was left stays among these, or comes to an open one
  module _ (found : Found) (listed : (x : Key) → times x left + times x opened ≡ (if contains_key found x then 1 else 0))
      (ended : (x : Key) → 0 < times x left → HasNext edges x found) (a : Key) (there : 0 < times a left) where
    found_where : (b : Key) → contains_key found b ≡ true → (0 < times b left) ⊎ (0 < times b opened)
    found_where b had = by (times b left) refl
      where
        by : (n : ℕ) → times b left ≡ n → (0 < times b left) ⊎ (0 < times b opened)
        by zero none = inr (grind (arith, listed b))
        by (suc n) some = inl (omega (arith, some))

    pub leaves_by_open : (n : ℕ) (b : Key) → LeadsBy edges n a b → (0 < times b left) ⊎ ((c : Key) × (0 < times c opened) × Leads edges a c)
    leaves_by_open zero b is = inl (rw (← is) there)
    leaves_by_open (suc n) b path = elim (leaves_by_open n path.0 path.1) [
      | inl still ↦ elim (found_where b (ended path.0 still b path.2)) [
        | inl here ↦ inl here
        | inr out ↦ inr (b, out, (suc n, path))
      ]
      | inr out ↦ inr out
    ]

  module _ (order : OrdersSoFar edges left opened) (x : Key) where
    -- a node is opened that wasn't found before
    pub order_opened : times x left ≡ 0
        → ((a : Key) → 0 < times a left → (n : ℕ) (b : Key) → LeadsBy edges n a b → (0 < times b left) ⊎ ((c : Key) × (0 < times c opened) × Leads edges a c))
        → OrdersSoFar edges left (x ∷ opened)
    order_opened none out a b there after way = elim (same_or_other b x) [
      | inl is ↦ elim (out a there way.0 b way.1) [
        | inl here ↦ absurd (omega (arith, here, ap (λ k. times k left) is, none))
        | inr by ↦ inr (by.0, rw is (rw (behind_gone x opened left none) by.1), by.2)
      ]
      | inr other ↦ elim (order a b there (omega (arith, after, behind_more x opened a b left there, one_other x b (λ is. other (sym is)))) way) [
        | inl back ↦ inl back
        | inr by ↦ inr (by.0, omega (arith, by.1, behind_kept x opened b by.0 (λ is. other (sym is)) left), by.2)
      ]
    ]

-- the node in front is left
module _ {E : Type 0} (edges : Edges E) (left opened : List Key) (x : Key) (order : OrdersSoFar edges left (x ∷ opened)) where
  together : (left ++ x ∷ []) ++ opened ≡ left ++ x ∷ opened
  together = append_assoc left (x ∷ []) opened

  pub order_left : times x left ≡ 0 → ((a : Key) → 0 < times a opened → Leads edges a x) → OrdersSoFar edges (left ++ x ∷ []) opened
  order_left none forward a b there after way = elim (same_or_other a x) [
    | inl is ↦ inl (rw is (forward b (rw (is, together, behind_gone x opened left none) at after)))
    | inr other ↦ rw together (order a b (omega (arith, there, times_pushed a left x, one_other x a (λ is. other (sym is)))) (rw together at after) way)
  ]

-- none is open
pub order_none : {E : Type 0} (edges : Edges E) → OrdersSoFar edges [] []
order_none edges a b there after way = absurd (omega (arith, there))
