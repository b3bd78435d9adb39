-- What the steps of a drain keep, and what they yield.
use Rattle.std.proofs.Common.{◌∷◌}
use Rattle.slotmap_scheduler.proofs.Common.{Drain, EmptiesSchedule, KeepsLent, Key, SameLoan, Schedule, YieldsInOrder, [], ap, arith, job_of, refl, subst, yielded_job, ◌∙◌}
use Rattle.slotmap_scheduler.proofs.TakingOut.{HasFewer, still_fewer}

-- a scheduler that has fewer jobs, and then none
pub emptied_then : {T : Type 0} (old mid : Schedule T) → HasFewer old mid → (end : Schedule T) → EmptiesSchedule mid end → EmptiesSchedule old end
emptied_then old mid fewer end ends =
    let all : HasFewer old end =
    still_fewer fewer (record { turns = ends.turns; capacity = ends.capacity; leaves = ends.leaves; for_good = λ k there _. ends.for_good k there; stale = ends.stale }) in
    record {
      empty = ends.empty;
      none_live = ends.none_live;
      for_good = λ k there. all.for_good k there (ap (job_of k) ends.empty);
      stale = all.stale;
      leaves = all.leaves;
      capacity = all.capacity;
      turns = all.turns;
    }

module _ {K T : Type 0} (data_of : K → Key) where
  pub keeps_lent : (first : Drain K T) → KeepsLent data_of first
  keeps_lent first [] later run = subst (SameLoan first) run (refl, λ end ends. ends)
  keeps_lent first (item ∷ items) later run = grind (arith, keeps_lent run.0 items later run.2, run.1.1)

  pub yields_in_order : (first : Drain K T) → YieldsInOrder data_of first
  yields_in_order first [] later run = ap (λ (d : Drain K T). d.scheduler.now.waiting) run
  yields_in_order first (item ∷ items) later run = run.1.0 ∙ ap (λ l. yielded_job data_of item ∷ l) (yields_in_order run.0 items later run.2)
