-- What `retain` does to the jobs that wait.
use Rattle.std.specs.Prelude.{◌≡◌, ℕ, Bool, Some, None, List, map as list_map, if◌then◌else◌}
use Rattle.std.specs.Fn.{Mut, Called, Takes}
use Rattle.std.specs.Borrow.{MutBor}
use Rattle.std.specs.List.{FoldsTo, fold}
use Rattle.slotmap.specs.Words.{Key}
use Rattle.slotmap_scheduler.specs.Schedule.{Waiting, job_of, with_job, without, IsOnce}
use Rattle.slotmap_scheduler.specs.Listed.{ListsJobs}

-- one call of the closure: the handle, the time and the job that it saw, the job that it left, and whether the job stays
pub record JobVisit (K T : Type 0) : Type 0 where
  pub handle : K
  pub time : ℕ
  pub before : T
  pub after : T
  pub stays : Bool

module _ {K T : Type 0} (data_of : K → Key) where
  -- the jobs that the calls saw
  abbrev pub jobs_seen : List (JobVisit K T) → Waiting T
  jobs_seen visits = list_map (λ x. (data_of x.handle, (x.time, x.before))) visits

  -- the jobs after a call: that job has what the call wrote, or isn't there
  abbrev pub after_visit : JobVisit K T → Waiting T → Waiting T
  after_visit x jobs = if x.stays then with_job (data_of x.handle) x.after jobs else without (data_of x.handle) jobs

  -- the jobs after all calls, in the same order
  abbrev pub after_visits : List (JobVisit K T) → Waiting T → Waiting T
  after_visits visits jobs = fold (λ left x. after_visit x left) jobs visits

  -- the calls saw jobs that wait, each once
  pub record SeesEachOnce (jobs : Waiting T) (visits : List (JobVisit K T)) : Type 0 where
    pub there : (k : Key) (due : ℕ × T) → job_of k (jobs_seen visits) ≡ Some due → job_of k jobs ≡ Some due
    pub once : IsOnce (jobs_seen visits)

module _ {F K T : Type 0} (g : Mut F (K × (ℕ × (MutBor T × Unit {0}))) (Bool × (MutBor T × Unit {0}))) where
  -- a call for a job, which takes the closure from f to f'
  pub record CallsForJob (f : F) (x : JobVisit K T) (f' : F) : Type 0 where
    pub shown : MutBor T
    pub shows : shown.now ≡ x.before
    pub left : MutBor T
    pub leaves : left.now ≡ x.after
    pub called : Called g f (x.handle, (x.time, (shown, tt))) (x.stays, (left, tt)) f'

  -- the closure f is called once for each job that waits, in some order; each for which it returns true stays, with what the call
  -- wrote, and those that stay keep their order
  pub record RetainsJobs (data_of : K → Key) (f : F) (old new : Waiting T) : Type 0 where
    pub visits : List (JobVisit K T)
    pub last : F
    pub calls : FoldsTo CallsForJob f visits last
    pub each : ListsJobs old (jobs_seen data_of visits)
    pub once : IsOnce (jobs_seen data_of visits)
    pub stay : new ≡ after_visits data_of visits old

  -- the closure f may be called for each job, in each state in which calls for other jobs leave it
  pub record CallableOnJobs (data_of : K → Key) (f : F) (jobs : Waiting T) : Type 0 where
    pub at : (visits : List (JobVisit K T)) (f' : F) (handle : K) (time : ℕ) (shown : MutBor T) → FoldsTo CallsForJob f visits f'
        → SeesEachOnce data_of jobs visits → job_of (data_of handle) (jobs_seen data_of visits) ≡ None
        → job_of (data_of handle) jobs ≡ Some (time, shown.now) → Takes g f' (handle, (time, (shown, tt)))
