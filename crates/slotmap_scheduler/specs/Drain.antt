-- What a contract sees of a `Drain`.
use Rattle.std.specs.Prelude.{◌≡◌, ℕ, ◌++◌, List, [], ◌∷◌, Option, Some, None, true, is_some, length, map as list_map}
use Rattle.std.specs.FinMap as map
use Rattle.std.specs.Borrow.{MutBor}
use Rattle.std.specs.Iterator.{Count, at_most, Yields}
use Rattle.slotmap.specs.Words.{Key, IsSpent, KeepsSpent, Leaves}
use Rattle.slotmap_scheduler.specs.Schedule.{Schedule, Waiting, job_of}
use Rattle.slotmap_scheduler.specs.declared.drain.Drain.{Drain}

-- no job waits, and no handle is live; those of all that waited are spent; no room is lost, and the capacity stays
pub record EmptiesSchedule {T : Type 0} (old new : Schedule T) : Type 0 where
  pub empty : new.waiting ≡ []
  pub none_live : new.handles.live ≡ map.empty
  pub for_good : (k : Key) → is_some (job_of k old.waiting) ≡ true → IsSpent new.handles k
  pub stale : KeepsSpent old.handles new.handles
  pub leaves : Leaves old.handles new.handles
  pub capacity : new.handles.capacity ≡ old.handles.capacity
  pub turns : new.turns ≡ old.turns

module _ {K T : Type 0} where
  -- the loan of the scheduler
  abbrev pub drain_loan : Drain K T → MutBor (Schedule T)
  drain_loan d = d.scheduler

  -- how many jobs are left
  abbrev pub drain_count : Drain K T → Count
  drain_count d = at_most (length d.scheduler.now.waiting)

  -- both hold the same loan of a scheduler. What that of `new` is emptied to, that of `old` is emptied to as well
  abbrev pub SameLoan : Drain K T → Drain K T → Type 0
  SameLoan old new = ((drain_loan new).ghost_name ≡ (drain_loan old).ghost_name)
      × ((end : Schedule T) → EmptiesSchedule (drain_loan new).now end → EmptiesSchedule (drain_loan old).now end)

  module _ (data_of : K → Key) where
    -- a job as it is yielded
    abbrev pub yielded_job : K × ℕ × T → Key × (ℕ × T)
    yielded_job e = (data_of e.0, (e.1, e.2))

    -- the first job that waited and the others, or that none waited
    abbrev pub TakesNext : Waiting T → Option (K × ℕ × T) → Waiting T → Type 0
    TakesNext old None new = (old ≡ []) × (new ≡ [])
    TakesNext old (Some e) new = old ≡ yielded_job e ∷ new

    -- `next` took the first job out of the scheduler, or none waited
    abbrev pub DrainSteps : Drain K T → Option (K × ℕ × T) → Drain K T → Type 0
    DrainSteps old item new = TakesNext old.scheduler.now.waiting item new.scheduler.now.waiting × SameLoan old new

    -- each state after calls of `next` has the loan of the first one
    abbrev pub KeepsLent : Drain K T → Type 0
    KeepsLent first = (items : List (K × ℕ × T)) (later : Drain K T) → Yields (DrainSteps) first items later → SameLoan first later

    -- what calls of `next` yield waited before what is left
    abbrev pub YieldsInOrder : Drain K T → Type 0
    YieldsInOrder first = (items : List (K × ℕ × T)) (later : Drain K T) → Yields (DrainSteps) first items later
        → first.scheduler.now.waiting ≡ list_map {B = Key × (ℕ × T)} (yielded_job) items ++ later.scheduler.now.waiting
