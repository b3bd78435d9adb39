-- The jobs of a scheduler in another order, and those that are due.
use Rattle.std.specs.Prelude.{◌≡◌, ℕ, ◌≤◌, ◌++◌, nat_lt, cond, List, [], ◌∷◌, length, map as list_map}
use Rattle.std.specs.List.{All}
use Rattle.slotmap.specs.Words.{Key}
use Rattle.slotmap_scheduler.specs.declared.Job.{Job}
use Rattle.slotmap_scheduler.specs.Schedule.{Waiting, job_of, IsByTime}

module _ {T : Type 0} where
  -- these are the jobs that wait: each handle has the same time and job, and there are as many
  pub record ListsJobs (waiting jobs : Waiting T) : Type 0 where
    pub same : (k : Key) → job_of k jobs ≡ job_of k waiting
    pub count : length jobs ≡ length waiting

  -- a handle with the time and the job that its user sees
  abbrev pub shown : Key × Job T → Key × (ℕ × T)
  shown e = (e.0, (e.1.turn.0, e.1.job))

  -- the same time, with a clone of the job
  abbrev pub IsDueClone : (T → T → Type 0) → ℕ × T → ℕ × T → Type 0
  IsDueClone is_clone due copy = (copy.0 ≡ due.0) × is_clone due.1 copy.1

  -- the first jobs that wait, as far as they are due
  abbrev pub due_at : ℕ → Waiting T → Waiting T
  due_at now [] = []
  due_at now (e ∷ es) = cond (nat_lt now e.1.0) [] (e ∷ due_at now es)

  -- the jobs from the first on that isn't due
  abbrev pub left_at : ℕ → Waiting T → Waiting T
  left_at now [] = []
  left_at now (e ∷ es) = cond (nat_lt now e.1.0) (e ∷ es) (left_at now es)

  -- the jobs of these times and handles, as they are returned
  abbrev pub Due : {K : Type 0} → (K → Key) → List (Key × (ℕ × T)) → List (K × T) → Type 0
  Due data_of waiting taken = list_map {B = Key × T} (λ e. (e.0, e.1.1)) waiting ≡ list_map {B = Key × T} (λ e. (data_of e.0, e.1)) taken

  -- the first jobs, which are due, were taken out and added to a list
  pub record TakesDue {K : Type 0} (data_of : K → Key) (now : ℕ) (old : Waiting T) (items all : List (K × T)) (new : Waiting T) : Type 0 where
    pub first : Waiting T
    pub taken : List (K × T)
    pub waited : old ≡ first ++ new
    pub due : All (λ e. e.1.0 ≤ now) first
    pub sorted : IsByTime first
    pub returned : Due data_of first taken
    pub added : all ≡ items ++ taken
