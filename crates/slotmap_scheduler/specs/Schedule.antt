-- A scheduler as its user sees it: the jobs that wait, in the order of their turns.
use Rattle.std.specs.Prelude.{◌≡◌, ℕ, ◌^◌, ◌-◌, ◌<◌, ◌≤◌, ◌⊎◌, true, not, nat_lt, is_some, refl, List, [], ◌∷◌, Option, None, cond}
use Rattle.std.specs.Ordering.{eq_by_cmp}
use Rattle.std.specs.List.{All, filter}
use Rattle.std.specs.FinMap.Entries.{find}
use Rattle.std.specs.Coded.{Coded, code_by, coded×, coded_list, coded_ℕ}
use Rattle.slotmap.specs.Words.{Key, key_cmp, coded_key, Content, keys_code, used, most, LacksRoom}
use Rattle.slotmap_scheduler.specs.declared.ScheduleError.{ScheduleError}
use Rattle.slotmap_scheduler.specs.declared.ScheduleError.TheVariants.{Full, Memory}
use Rattle.slotmap_scheduler.specs.declared.RescheduleError.{RescheduleError}
use Rattle.slotmap_scheduler.specs.declared.RescheduleError.TheVariants as move

-- the jobs that wait, in the order in which they will be returned: each handle with its time and its job
abbrev pub Waiting : Type 0 → Type 0
Waiting T = List (Key × (ℕ × T))

pub record Schedule (T : Type 0) : Type 0 where
  pub waiting : Waiting T
  -- the handles without their jobs; `IsSpent` says which are never used again
  pub handles : Content (Unit {0})
  -- how many turns were given out
  pub turns : ℕ

-- by which a proof tells two schedulers apart
abbrev pub schedule_code : {T : Type 0} → Coded T → Coded (Schedule T)
schedule_code {T} code =
    code_by (Waiting T × (Content (Unit {0}) × ℕ)) (coded× (coded_list (coded× coded_key (coded× coded_ℕ code))) (coded× keys_code coded_ℕ))
    (λ s. (s.waiting, (s.handles, s.turns))) (λ p. record { waiting = p.0; handles = p.1.0; turns = p.1.1 }) (λ _. refl)

-- the last turn: none is given out after it
abbrev pub last_turn : ℕ
last_turn = 2 ^ 64 - 1

module _ {T : Type 0} where
  -- the time and the job of a handle, if it waits
  abbrev pub job_of : Key → Waiting T → Option (ℕ × T)
  job_of k jobs = find key_cmp k jobs

  -- one more job, behind all jobs of its time
  abbrev pub in_turn : Key × (ℕ × T) → Waiting T → Waiting T
  in_turn x [] = x ∷ []
  in_turn x (e ∷ es) = cond (nat_lt x.1.0 e.1.0) (x ∷ e ∷ es) (e ∷ in_turn x es)

  -- the jobs without that of a handle
  abbrev pub without : Key → Waiting T → Waiting T
  without k jobs = filter (λ e. not (eq_by_cmp key_cmp k e.0)) jobs

  -- each handle is there once
  abbrev pub IsOnce : Waiting T → Type 0
  IsOnce [] = Unit {0}
  IsOnce (e ∷ es) = (job_of e.0 es ≡ None) × IsOnce es

  -- no job is due after one behind it
  abbrev pub IsByTime : Waiting T → Type 0
  IsByTime [] = Unit {0}
  IsByTime (e ∷ es) = All (λ x. e.1.0 ≤ x.1.0) es × IsByTime es

  -- the same turns, where the handle has another job
  abbrev pub with_job : Key → T → Waiting T → Waiting T
  with_job k job [] = []
  with_job k job (e ∷ es) = cond (eq_by_cmp key_cmp k e.0) ((e.0, (e.1.0, job)) ∷ es) (e ∷ with_job k job es)

  -- `Full` if and only if a map can hold no more jobs, or the last turn was given out; `Memory` only if no room was promised; the
  -- error holds the job
  abbrev pub RefusesJob : Schedule T → T → ScheduleError T → Type 0
  RefusesJob s job (Full back) = ((used s.handles ≡ most) ⊎ (s.turns ≡ last_turn)) × (back ≡ job)
  RefusesJob s job (Memory back) = LacksRoom s.handles × (s.turns < last_turn) × (back ≡ job)

  -- `Gone` if and only if no job waits under k; `Full` only if one does, and the last turn was given out
  abbrev pub RefusesMove : Schedule T → Key → RescheduleError → Type 0
  RefusesMove s k move.Gone = job_of k s.waiting ≡ None
  RefusesMove s k move.Full = (is_some (job_of k s.waiting) ≡ true) × (s.turns ≡ last_turn)
