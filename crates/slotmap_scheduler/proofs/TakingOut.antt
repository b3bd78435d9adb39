-- What calls keep that take jobs out of a scheduler, one by one.
use Rattle.std.proofs.Common.{◌∷◌, ◌≡◌, ◌≢◌}
use Rattle.slotmap_scheduler.proofs.Common.{arith, exact_keys, keys_total, tied, IsSpent, KeepsSpent, Key, Leaves, None, Schedule, is_some, job_of, leaves_in_turn, leaves_none, same_or_other, true}
use Rattle.slotmap_scheduler.proofs.Common.{ℕ}

module _ {T : Type 0} where
  pub record HasFewer (old new : Schedule T) : Type 0 where
    pub turns : new.turns ≡ old.turns
    pub capacity : new.handles.capacity ≡ old.handles.capacity
    pub leaves : Leaves old.handles new.handles
    pub for_good : (k : Key) → is_some (job_of k old.waiting) ≡ true → job_of k new.waiting ≡ None → IsSpent new.handles k
    pub stale : KeepsSpent old.handles new.handles

  pub same_fewer : (s : Schedule T) → HasFewer s s
  same_fewer s = grind (arith, leaves_none s.handles)

  pub still_fewer : {old mid new : Schedule T} → HasFewer old mid → HasFewer mid new → HasFewer old new
  still_fewer {old} {mid} {new} one two = grind (arith, one, two, leaves_in_turn _ _ _ one.leaves two.leaves, one.for_good, two.for_good, one.stale, two.stale)

  -- the job of a handle was taken out
  module _ (old new : Schedule T) (turns : new.turns ≡ old.turns) (capacity : new.handles.capacity ≡ old.handles.capacity) (leaves : Leaves old.handles new.handles)
      (stale : KeepsSpent old.handles new.handles) where
    pub one_fewer : (k : Key) → IsSpent new.handles k → ((q : Key) → q ≢ k → job_of q new.waiting ≡ job_of q old.waiting) → HasFewer old new
    one_fewer k spent others = grind (arith, turns, capacity, leaves, stale, spent, others, same_or_other)

    -- it was that of the first
    pub first_fewer : (e : Key × (ℕ × T)) → IsSpent new.handles e.0 → old.waiting ≡ e ∷ new.waiting → HasFewer old new
    first_fewer e spent is = one_fewer e.0 spent (λ q other. grind (arith, is, tied keys_total exact_keys q e.0))
