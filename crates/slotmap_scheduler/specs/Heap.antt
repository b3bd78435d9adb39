-- How a scheduler keeps its jobs: each in the map, with its place in a heap of turns.
use Rattle.std.specs.Prelude.{◌≡◌, ◌≢◌, ℕ, zero, suc, ◌+◌, ◌-◌, ◌/◌, ◌<◌, ◌≤◌, ◌&&◌, ◌||◌, Bool, true, false, not, cond, nat_eq, nat_lt, List, Option}
use Rattle.std.specs.Prelude.{get_or, length, min, vec_len, vec_capacity, slice_get, option_map}
use Rattle.std.specs.declared.vec.Vec.{Vec}
use Rattle.std.specs.Ordering.{is_lt}
use Rattle.slotmap.specs.Words.{Key, key_cmp, Content, IsContent, without_values}
use Rattle.slotmap_bounded.specs.Mapped.{map_content}
use Rattle.slotmap_scheduler.specs.declared.Job.{Job}
use Rattle.slotmap_scheduler.specs.declared.heap.Entry.{Entry}
use Rattle.slotmap_scheduler.specs.Inverse.{IsInverse}
use Rattle.slotmap_scheduler.specs.Timed.{Turn, turn_cmp, InOrder}
use Rattle.std.specs.FinMap as map

-- whether turn a is before turn b
unfoldable pub precedes : Turn → Turn → Bool
precedes a b = is_lt (turn_cmp a b)

-- the place above a place
abbrev pub up : ℕ → ℕ
up c = (c - 1) / 2

-- an entry, for where there is none
pub no_entry : Entry
no_entry = record { turn = (0, 0); handle = record { index = 0; version = 0 } }

-- the turn at a place
abbrev pub turn_at : List Entry → ℕ → Turn
turn_at heap i = (get_or heap i no_entry).turn

-- no turn is before the one above it
abbrev pub IsHeap : List Entry → Type 0
IsHeap heap = (c : ℕ) → 0 < c → c < length heap → precedes (turn_at heap c) (turn_at heap (up c)) ≡ false

-- the same for all entries but one, which may have any turn
pub record IsHeapBut (at : ℕ) (heap : List Entry) : Type 0 where
  pub pairs : (c : ℕ) → 0 < c → c < length heap → c ≢ at → up c ≢ at → precedes (turn_at heap c) (turn_at heap (up c)) ≡ false
  -- none below it is before the one above it
  pub bridges : (c : ℕ) → 0 < c → c < length heap → up c ≡ at → 0 < at → precedes (turn_at heap c) (turn_at heap (up at)) ≡ false

-- its turn isn't before the one above it
abbrev pub IsAbove : ℕ → List Entry → Type 0
IsAbove at heap = 0 < at → precedes (turn_at heap at) (turn_at heap (up at)) ≡ false

-- the place child is below at, and has the first of the turns there
pub record IsFirstBelow (at child : ℕ) (heap : List Entry) : Type 0 where
  pub low : 0 < child
  pub below : up child ≡ at
  pub inside : child < length heap
  pub least : (c : ℕ) → 0 < c → up c ≡ at → c < length heap → precedes (turn_at heap c) (turn_at heap child) ≡ false

-- whether the place c is `at`, or below it by so many steps at most
abbrev pub is_under : ℕ → ℕ → ℕ → Bool
is_under zero at c = nat_eq c at
is_under (suc steps) at c = nat_eq c at || (nat_lt 0 c && is_under steps at (up c))

-- how many numbers below a bound pass a test
abbrev pub count_below : (ℕ → Bool) → ℕ → ℕ
count_below test zero = 0
count_below test (suc n) = cond (test n) 1 0 + count_below test n

-- whether the entry at a place is due
abbrev pub is_due_at : ℕ → List Entry → ℕ → Bool
is_due_at now heap c = not (nat_lt now (turn_at heap c).0)

-- how many entries are due that stand at a place or below it
unfoldable pub due_under : ℕ → ℕ → List Entry → ℕ
due_under now at heap = count_below (λ c. is_under (length heap) at c && is_due_at now heap c) (length heap)

-- the handle and the turn at a place
abbrev pub heap_entry : List Entry → ℕ → Option (Key × Turn)
heap_entry heap i = option_map (λ e. (e.handle, e.turn)) (slice_get heap i)

-- under each handle the job that waits
abbrev pub Jobs : Type 0 → Type 0
Jobs T = map.FinMap key_cmp (Job T)

module _ {T : Type 0} where
  -- the place and the turn of a handle
  abbrev pub spot_of : Jobs T → Key → Option (ℕ × Turn)
  spot_of jobs k = option_map (λ j. (j.place, j.turn)) (map.get jobs k)

  -- the jobs are those of the entries, and each has the place of its entry
  abbrev pub IsPlaced : Jobs T → List Entry → Type 0
  IsPlaced jobs heap = IsInverse (spot_of jobs) (heap_entry heap)

  -- a job without its place
  abbrev pub unplaced : Job T → Turn × T
  unplaced j = (j.turn, j.job)

  -- the jobs without their places
  abbrev pub timed : Content (Job T) → Content (Turn × T)
  timed jobs = map_content unplaced jobs

  module _ {Z : Type 0} where
    -- only places have changed, and each job has that of its entry
    pub record Resettled (jobs : Content (Job T)) (heap : Vec Entry Z) (jobs' : Content (Job T)) (heap' : Vec Entry Z) : Type 0 where
      pub placed : IsPlaced jobs'.live heap'.items
      pub same : timed jobs' ≡ timed jobs
      pub len : vec_len heap' ≡ vec_len heap
      pub capacity : vec_capacity heap' ≡ vec_capacity heap

    -- the handles, with the room and the capacity that both the map and the heap have
    abbrev pub handles_of : Content (Turn × T) → Vec Entry Z → Content (Unit {0})
    handles_of jobs heap = record (without_values jobs) {
      room = min jobs.room (vec_capacity heap - vec_len heap);
      capacity = min jobs.capacity (vec_capacity heap);
    }

    -- the heap has the turn of each job, in the place that the job has
    pub record IsIndexed (jobs : Content (Job T)) (heap : Vec Entry Z) : Type 0 where
      pub placed : IsPlaced jobs.live heap.items
      pub ordered : IsHeap heap.items
      pub len : vec_len heap ≡ map.len (timed jobs).live

    -- what holds of every scheduler
    pub record IsSchedule (jobs : Content (Job T)) (count : ℕ) (heap : Vec Entry Z) : Type 0 where
      pub order : InOrder (timed jobs).live count
      pub valid : IsContent true (timed jobs)
      pub indexed : IsIndexed jobs heap
      -- where a slot of the map is vacant, the heap has room too
      pub room : map.len (timed jobs).live + map.len jobs.next ≤ vec_capacity heap
