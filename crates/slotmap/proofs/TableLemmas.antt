-- What a call that changes one side table alone does to it: the value of one key, or its removal.
use Rattle.std.proofs.Common.{◌≡◌, ◌≢◌, ◌⊎◌, ℕ, Some, None, is_some, inl, inr, sym, ap, ◌∙◌, arith}
use Rattle.slotmap_core.proofs.Common.{nat_tests, same_or_other, secondary, removed_gone, others_stay as get-remove_other}
use Rattle.slotmap.specs.Words.{Key, Content, IsBeside, Pairs, get, bind, remove}

by_index : (i j : ℕ) → (i ≡ j) ⊎ (i ≢ j)
by_index i j = elim (same_or_other (record { index = i; version = 0 }) (record { index = j; version = 0 })) [
  | inl e ↦ inl (ap (λ (x : Key). x.index) e)
  | inr n ↦ inr (λ e. n (λ d. record { index = e d; version = 0 }))
]

module _ {P : Type 0} (m : Pairs P) (k : Key) (v w : P) (here : get m k ≡ Some v) where
  -- a value that replaces another one
  pub get-bind_other : (q : Key) → q ≢ k → get (bind m k w) q ≡ get m q
  get-bind_other q other = elim (by_index q.index k.index) [
    | inl at ↦ (let apart : q.version ≢ k.version = λ same. other (λ i. record { index = at i; version = same i }) in
        let new : get (bind m k w) q ≡ None = grind (arith, secondary) in
        let old : get m q ≡ None = grind (arith, nat_tests) in
        new ∙ sym old)
    | inr elsewhere ↦ grind (arith, secondary)
  ]

  pub get-bind_here : get (bind m k w) k ≡ Some w
  get-bind_here = grind (arith, secondary)

  pub beside_bound : {E : Type 0} (c : Content E) → IsBeside c m → IsBeside c (bind m k w)
  beside_bound c beside q there = elim (same_or_other q k) [
    | inl e ↦ rw e (beside k (ap is_some here))
    | inr other ↦ beside q (rw (get-bind_other q other) at there)
  ]

-- a key that leaves the table alone
pub beside_taken : {E P : Type 0} (c : Content E) (m : Pairs P) (k : Key) → IsBeside c m → IsBeside c (remove m k)
beside_taken c m k beside q there = elim (same_or_other q k) [
  | inl e ↦ absurd (let t = rw e at there in let gone = removed_gone m k in cc)
  | inr other ↦ beside q (rw (get-remove_other m k q other) at there)
]
