-- What a scheduler's user sees, by what its map holds.
use Rattle.std.proofs.Common.{◌-◌, ◌<◌, ◌∷◌, ◌≡◌, ◌≤◌}
use Rattle.slotmap_scheduler.proofs.Common.{All, Content, Entry, IsContent, IsLive, IsSchedule, Job, Key, List, ListsJobs, None, Option, Some, Turn, Vec, [], ap, arith, false, get-mapped}
use Rattle.slotmap_scheduler.proofs.Common.{heap_entry, is_some, job_of, len-mapped, length, length-map, list_map, no_entry, option_map, precedes, refl, shown, slice_get}
use Rattle.slotmap_scheduler.proofs.Common.{slice_get-get_or, sym, timed, true, turn_at, unplaced, waiting_of, without, ℕ, ◌∙◌}
use Rattle.slotmap_scheduler.proofs.Order.{job_is, len_is, none_due, none_wait, waits_first}
use Rattle.slotmap_scheduler.proofs.{Heaps.top_first, HeapPlaces.entry_within}
use Rattle.slotmap_scheduler.proofs.Waits.{find-shown, least_first, waits_by_time}
use Rattle.std.specs.FinMap as map

module _ {T Z : Type 0} {jobs : Content (Job T)} {count : ℕ} {heap : Vec Entry Z} (is : IsSchedule jobs count heap) (k : Key) where
  -- the time and the job of a handle
  seen_is : job_of k (waiting_of (timed jobs).live) ≡ option_map (λ (j : Job T). (j.turn.0, j.job)) (map.get jobs.live k)
  seen_is = grind (arith, job_is (timed jobs).live count is.order k, get-mapped unplaced jobs.live k)

  pub job_seen : option_map (λ (j : Job T). j.job) (map.get jobs.live k) ≡ option_map (λ (due : ℕ × T). due.1) (job_of k (waiting_of (timed jobs).live))
  job_seen = grind (arith, seen_is)

  pub due_seen : option_map (λ (j : Job T). j.turn.0) (map.get jobs.live k) ≡ option_map (λ (due : ℕ × T). due.0) (job_of k (waiting_of (timed jobs).live))
  due_seen = grind (arith, seen_is)

  pub contains_seen : map.contains_key jobs.live k ≡ is_some (job_of k (waiting_of (timed jobs).live))
  contains_seen = grind (arith, seen_is)

  pub none_seen : map.get jobs.live k ≡ None → job_of k (waiting_of (timed jobs).live) ≡ None
  none_seen none = grind (arith, seen_is)

-- a job as it is in the map: with its place, and without
spot_there : {T : Type 0} (o : Option (Job T)) (t : Turn) (x : T) → option_map unplaced o ≡ Some (t, x) → (p : ℕ)
    × (option_map {U = ℕ × Turn} (λ (j : Job T). (j.place, j.turn)) o ≡ Some (p, t))
spot_there None t x is = absurd (cc)
spot_there (Some j) t x is = (j.place, grind arith)

pub job_there : {T : Type 0} (o : Option (Job T)) (p : ℕ) (t : Turn) → option_map {U = ℕ × Turn} (λ (j : Job T). (j.place, j.turn)) o ≡ Some (p, t)
    → (x : T) × (option_map unplaced o ≡ Some (t, x))
job_there None p t is = absurd (cc)
job_there (Some j) p t is = (j.job, grind arith)

-- the job at the top of the heap
module _ {T Z : Type 0} {jobs : Content (Job T)} {count : ℕ} {heap : Vec Entry Z} (is : IsSchedule jobs count heap) where
  turn_there : (i : ℕ) (k : Key) (t : Turn) → heap_entry heap.items i ≡ Some (k, t) → turn_at heap.items i ≡ t
  turn_there i k t there = grind (arith, slice_get-get_or heap.items i no_entry (entry_within heap.items i (k, t) there))

  module _ (e : Entry) (top : slice_get heap.items 0 ≡ Some e) where
    top_entry : heap_entry heap.items 0 ≡ Some (e.handle, e.turn)
    top_entry = ap (option_map _) top

    top_job : (job : T) × (map.get (timed jobs).live e.handle ≡ Some (e.turn, job))
    top_job = grind (arith, job_there (map.get jobs.live e.handle) 0 e.turn (is.indexed.placed.from 0 e.handle e.turn top_entry), get-mapped unplaced jobs.live e.handle)

    least : (q : Key) (u : Turn) (x : T) → map.get (timed jobs).live q ≡ Some (u, x) → precedes u e.turn ≡ false
    least q u x there =
        grind (arith, get-mapped unplaced jobs.live q, spot_there (map.get jobs.live q) u x, is.indexed.placed.to q, turn_there, entry_within, top_entry, top_first heap.items is.indexed.ordered)

    pub top_waits : (job : T) × (waiting_of (timed jobs).live ≡ (e.handle, (e.turn.0, job)) ∷ without e.handle (waiting_of (timed jobs).live))
    top_waits = (top_job.0, waits_first (timed jobs).live count is.order e.handle e.turn top_job.0 top_job.1 least)

    pub top_least : All (λ (x : Key × (ℕ × T)). e.turn.0 ≤ x.1.0) (waiting_of (timed jobs).live)
    top_least = least_first _ _ _ (waits_by_time (timed jobs).live) top_waits.1

    pub top_later : (now : ℕ) → now < e.turn.0 → All (λ (x : Key × (ℕ × T)). now < x.1.0) (waiting_of (timed jobs).live)
    top_later now later = none_due (timed jobs).live count is.order e.handle e.turn top_job.0 top_job.1 least now later

  pub empty_waits : slice_get heap.items 0 ≡ None → waiting_of (timed jobs).live ≡ []
  empty_waits none = none_wait (timed jobs).live count is.order (sym is.indexed.len ∙ heap.ok.0 ∙ no_items heap.items none)
    where
      no_items : (xs : List Entry) → slice_get xs 0 ≡ None → length xs ≡ 0
      no_items [] none = refl
      no_items (x ∷ xs) none = absurd (cc)

  -- an entry, and the last one where there is none
  pub entry_waits : (i : ℕ) (e : Entry) → slice_get heap.items i ≡ Some e → is_some (job_of e.handle (waiting_of (timed jobs).live)) ≡ true
  entry_waits i e there = grind (arith, job_there (map.get jobs.live e.handle) i e.turn (is.indexed.placed.from i e.handle e.turn (ap (option_map _) there)), seen_is is e.handle)

  pub none_last_waits : slice_get heap.items (length heap.items - 1) ≡ None → waiting_of (timed jobs).live ≡ []
  none_last_waits none = empty_waits (no_last heap.items none)
    where
      no_last : (xs : List Entry) → slice_get xs (length xs - 1) ≡ None → slice_get xs 0 ≡ None
      no_last [] none = refl
      no_last (x ∷ xs) none = absurd (grind (arith, slice_get-get_or (x ∷ xs) (length (x ∷ xs) - 1) no_entry))

-- the jobs as an iterator yields them
module _ {T Z : Type 0} {jobs : Content (Job T)} {count : ℕ} {heap : Vec Entry Z} (is : IsSchedule jobs count heap) where
  pub lists_jobs : ListsJobs (waiting_of (timed jobs).live) (list_map shown (map.entries jobs.live))
  lists_jobs =
      let same = find-shown (map.entries jobs.live) in
      let found = map.get-entries jobs.live in
      let count = length-map (map.entries jobs.live) shown ∙ sym (map.len-entries jobs.live) ∙ sym (len_is (timed jobs).live count is.order ∙ len-mapped unplaced jobs.live) in
      grind (arith, same, found, seen_is is)

-- a handle that the map finds, and the least one from an index on
module _ {T Z : Type 0} {jobs : Content (Job T)} {count : ℕ} {heap : Vec Entry Z} (is : IsSchedule jobs count heap) (k : Key) where
  pub found_waits : (j : Job T) → map.get jobs.live k ≡ Some j → job_of k (waiting_of (timed jobs).live) ≡ Some (j.turn.0, j.job)
  found_waits j found = seen_is is k ∙ ap (option_map (λ (y : Job T). (y.turn.0, y.job))) found

  pub alone_at : IsContent true jobs → (j : Job T) → map.get jobs.live k ≡ Some j → (floor : ℕ)
      → ((other : Key) → IsLive jobs other → floor ≤ other.index → k.index ≤ other.index)
      → (q : Key) → is_some (job_of q (waiting_of (timed jobs).live)) ≡ true → floor ≤ q.index → q.index ≤ k.index → q ≡ k
  alone_at well j found floor first q there from up = grind (arith, contains_seen is q, first q, well.apart q k)
