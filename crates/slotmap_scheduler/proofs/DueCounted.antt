-- How many of the jobs that wait are due, counted by their places in the heap.
use Rattle.std.proofs.Common.{◌&&◌, ◌+◌, ◌<◌, ◌∷◌, ◌≡◌, ◌≤◌}
use Rattle.slotmap_scheduler.proofs.Common.{All, All-head, All-tail, Bool, Content, Entry, IsByTime, IsOnce, IsSchedule, Job, Key, Some, Vec, Waiting, [], ap, arith, cond, count_below, due_at}
use Rattle.slotmap_scheduler.proofs.Common.{exact_keys, filter, get-mapped, get_or, heap_entry, is_due_at, is_under, job_of, keys_total, length, nat_lt, nat_tests, nil_from_length, no_entry, not}
use Rattle.slotmap_scheduler.proofs.Common.{option_map, refl, slice_get-get_or, suc, sym, tied, timed, turn_at, unplaced, waiting_of, without, zero, ℕ, ◌∙◌}
use Rattle.slotmap_scheduler.proofs.{Counting.count_alike, Counting.under_top, Order.job_is, Order.len_is, Seen.job_there, Waits.waits_by_time, Waits.waits_once}
use Rattle.slotmap_scheduler.proofs.Found.{count_without, found_without, len_without, once_without}
unfoldable use Rattle.slotmap_scheduler.proofs.Common.{due_under}
use Rattle.std.specs.FinMap as map

module _ {T : Type 0} (now : ℕ) where
  abbrev is_due : Key × (ℕ × T) → Bool
  is_due e = not (nat_lt now e.1.0)

  none_passes : (time : ℕ) (ws : Waiting T) → now < time → All (λ (x : Key × (ℕ × T)). time ≤ x.1.0) ws → filter is_due ws ≡ []
  none_passes time [] later all = refl
  none_passes time (e ∷ ws) later all =
      grind (arith, nat_tests, All-head (λ (x : Key × (ℕ × T)). time ≤ x.1.0) e ws all, none_passes time ws later (All-tail (λ (x : Key × (ℕ × T)). time ≤ x.1.0) e ws all))

  -- those that are due are the first
  due_first : (ws : Waiting T) → IsByTime ws → due_at now ws ≡ filter is_due ws
  due_first [] sorted = refl
  due_first (e ∷ ws) sorted = grind (arith, nat_tests, due_first ws sorted.1, none_passes e.1.0 ws)

  -- as many are due as there are places of jobs that are, if each job has one place
  due_placed : (n : ℕ) (handle : ℕ → Key) (time : ℕ → ℕ) (ws : Waiting T) → IsOnce ws → length ws ≡ n
      → ((c : ℕ) → c < n → (x : T) × (job_of (handle c) ws ≡ Some (time c, x)))
      → ((c d : ℕ) → c < n → d < n → handle c ≡ handle d → c ≡ d) → length (filter is_due ws) ≡ count_below (λ c. not (nat_lt now (time c))) n
  due_placed zero handle time ws once len there apart = ap (λ l. length (filter is_due l)) (nil_from_length ws len)
  due_placed (suc n) handle time ws once len there apart =
      let last = there n (omega arith) in
      let rest = due_placed n handle time (without (handle n) ws) (once_without (handle n) ws once)
      (let more = len_without (handle n) ws (time n, last.0) once last.1 in omega arith)
      (λ c below. let at = there c (omega arith) in
      (at.0, found_without (handle n) (handle c) ws ∙ (let apart = apart c n in let tie = tied keys_total exact_keys (handle c) (handle n) in grind (arith, at.1))))
      (λ c d one two. apart c d (omega arith) (omega arith)) in
      count_without (handle n) is_due ws (time n, last.0) once last.1 ∙ ap (λ m. cond (not (nat_lt now (time n))) 1 0 + m) rest

-- as many are due as the heap has entries that are
module _ {T Z : Type 0} {jobs : Content (Job T)} {count : ℕ} {heap : Vec Entry Z} (is : IsSchedule jobs count heap) where
  abbrev handle_at : ℕ → Key
  handle_at c = (get_or heap.items c no_entry).handle

  entry_at : (c : ℕ) → c < length heap.items → heap_entry heap.items c ≡ Some (handle_at c, turn_at heap.items c)
  entry_at c inside = ap (option_map (λ (e : Entry). (e.handle, e.turn))) (slice_get-get_or heap.items c no_entry inside)

  job_at : (c : ℕ) → c < length heap.items → (x : T) × (job_of (handle_at c) (waiting_of (timed jobs).live) ≡ Some ((turn_at heap.items c).0, x))
  job_at c inside = let there = job_there (map.get jobs.live (handle_at c)) c (turn_at heap.items c) (is.indexed.placed.from c (handle_at c) (turn_at heap.items c) (entry_at c inside)) in
      (there.0, job_is (timed jobs).live count is.order (handle_at c) ∙ ap (option_map _) (get-mapped unplaced jobs.live (handle_at c) ∙ there.1))

  lone_place : (c d : ℕ) → c < length heap.items → d < length heap.items → handle_at c ≡ handle_at d → c ≡ d
  lone_place c d one two same = grind (arith, is.indexed.placed.from, entry_at c one, entry_at d two)

  pub due_counted : (now : ℕ) → due_under now 0 heap.items ≡ length (due_at now (waiting_of (timed jobs).live))
  unfolding due_under
  due_counted now =
      let waits : Waiting T = waiting_of (timed jobs).live in
      let size = length heap.items in
      count_alike (λ c. is_under size 0 c && is_due_at now heap.items c) (is_due_at now heap.items) size
      (λ c inside. ap (λ b. b && is_due_at now heap.items c) (under_top size c (omega arith)))
      ∙ sym (ap length (due_first now waits (waits_by_time (timed jobs).live))
      ∙ due_placed now size handle_at (λ c. (turn_at heap.items c).0) waits (waits_once (timed jobs).live count is.order)
      (len_is (timed jobs).live count is.order ∙ sym is.indexed.len ∙ heap.ok.0) job_at lone_place)
