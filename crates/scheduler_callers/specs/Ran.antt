-- What was taken out of a scheduler, as it lists its jobs.
use Rattle.std.specs.Prelude.{ℕ, List, map as list_map}
use Rattle.slotmap.specs.Words.{Key}
use Rattle.slotmap_scheduler.specs.Schedule.{Waiting}

-- each job that ran: its handle, its time and the job
abbrev pub ran_as : List (ℕ × Key × ℕ) → Waiting ℕ
ran_as ran = list_map {B = Key × (ℕ × ℕ)} (λ e. (e.1, (e.0, e.2))) ran

-- the same of jobs that a drain yielded
abbrev pub taken_as : List (Key × ℕ × ℕ) → Waiting ℕ
taken_as taken = list_map {B = Key × (ℕ × ℕ)} (λ e. (e.0, (e.1, e.2))) taken
