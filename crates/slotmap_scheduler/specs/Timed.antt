-- Jobs without their places, and the order in which they will be returned.
use Rattle.std.specs.Prelude.{◌≡◌, ℕ, ◌<◌, Some, map as list_map}
use Rattle.std.specs.declared.cmp.Ordering.{Ordering}
use Rattle.std.specs.Ordering.{ordering_then, nat_cmp}
use Rattle.slotmap.specs.Words.{Key, key_cmp}
use Rattle.slotmap_scheduler.specs.Inverse.{IsInverse}
use Rattle.slotmap_scheduler.specs.Schedule.{Waiting}
use Rattle.std.specs.FinMap as map

-- the time at which a job is due, and its number among all that were scheduled
abbrev pub Turn : Type 0
Turn = ℕ × ℕ

-- by time, and then by number
abbrev pub turn_cmp : Turn → Turn → Ordering
turn_cmp a b = ordering_then (nat_cmp a.0 b.0) (nat_cmp a.1 b.1)

-- the turn and the job of each handle
abbrev pub Timed : Type 0 → Type 0
Timed T = map.FinMap key_cmp (Turn × T)

module _ {T : Type 0} where
  -- the handle and the job of each turn
  unfoldable pub by_turn : Timed T → map.FinMap turn_cmp (Key × T)
  by_turn jobs = map.from_entries (list_map (λ e. (e.1.0, (e.0, e.1.1))) (map.entries jobs))

  -- a job as its user sees it
  abbrev pub as_seen : Turn × (Key × T) → Key × (ℕ × T)
  as_seen e = (e.1.0, (e.0.0, e.1.1))

  -- the jobs in the order of their turns
  abbrev pub waiting_of : Timed T → Waiting T
  waiting_of jobs = list_map as_seen (map.entries (by_turn jobs))

  -- no two jobs have one turn, and the number of each is below a count
  pub record InOrder (jobs : Timed T) (count : ℕ) : Type 0 where
    pub turns : IsInverse (map.get jobs) (map.get (by_turn jobs))
    pub len : map.len (by_turn jobs) ≡ map.len jobs
    pub numbered : (k : Key) (t : Turn) (job : T) → map.get jobs k ≡ Some (t, job) → t.1 < count
