-- The list of those that wait, of which the first is taken out; and a sum over the nodes that aren't settled, which each one that is settled lowers.
use Rattle.std.proofs.Common.{◌≡◌, ◌≢◌, ℕ, ◌+◌, ◌<◌, ◌≤◌, Bool, true, false, Some, List, [], ◌∷◌, inl, inr, arith}
use Rattle.std.specs.List.{All}
use Rattle.std.proofs.lemmas.List.Elements.{All-head, All-tail}
use Rattle.slotmap.specs.Words.{Key}
use Rattle.slotmap.proofs.Callers.{exact_keys, itself, keys_total, same_or_other, tied}
use Rattle.slotmap_bounded.specs.KeyLists.{times}
use Rattle.slotmap_bounded.proofs.Counts.{one_other, times_first}
use Rattle.slotmap_paths.specs.Searching.{owed}
use Rattle.slotmap_scheduler.specs.Schedule.{Waiting, job_of}

module _ {T : Type 0} (h : Key) (t : ℕ) (x : T) (rest : Waiting T) where
  pub first_waits : job_of h ((h, (t, x)) ∷ rest) ≡ Some (t, x)
  first_waits = grind (arith, itself keys_total exact_keys h)

  pub others_wait : (q : Key) → q ≢ h → job_of q rest ≡ job_of q ((h, (t, x)) ∷ rest)
  others_wait q other = grind (arith, tied keys_total exact_keys q h)

-- who waits has no lesser time than all have
pub no_less : {T : Type 0} (t : ℕ) (es : Waiting T) → All (λ e. t ≤ e.1.0) es → (q : Key) (s : ℕ) (y : T) → job_of q es ≡ Some (s, y) → t ≤ s
no_less t [] all q s y is = absurd (cc)
no_less t (e ∷ es) all q s y is = grind (arith, All-head (λ e. t ≤ e.1.0) e es all, no_less t es (All-tail (λ e. t ≤ e.1.0) e es all) q s y)

module _ (f : Key → ℕ) (before after : Key → Bool) (kept : (k : Key) → before k ≡ true → after k ≡ true) where
  owed_less : (ks : List Key) → owed f after ks ≤ owed f before ks
  owed_less [] = omega arith
  owed_less (k ∷ ks) = grind (arith, kept k, owed_less ks)

  -- one more is done
  pub owed_one : (x : Key) → before x ≡ false → after x ≡ true → (ks : List Key) → 0 < times x ks → owed f after ks + f x ≤ owed f before ks
  owed_one x was now [] more = absurd (omega arith)
  owed_one x was now (k ∷ ks) more = elim (same_or_other k x) [
    | inl is ↦ grind (arith, is, was, now, owed_less ks)
    | inr other ↦ grind (arith, kept k, owed_one x was now ks, times_first x k ks, one_other k x other)
  ]
