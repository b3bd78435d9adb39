-- What holds of every scheduler, after each call.
use Rattle.std.proofs.Common.{◌+◌, ◌≡◌, ◌≤◌, ◌⊎◌}
use Rattle.slotmap_scheduler.proofs.Common.{alone-keeps, eq_by_cmp, itself, len-keys_of, used_alone, Content, Entry, InOrder, Inserts, IsContent, IsIndexed, IsLive, IsSchedule, Job, Key, Leaves}
use Rattle.slotmap_scheduler.proofs.Common.{MakesRoom, None, Removes, Schedule, Some, Turn, Vec, [], ap, arith, cond, content-mapped, exact_keys, exact_unsigned, get-mapped, handles_of, in_turn}
use Rattle.slotmap_scheduler.proofs.Common.{inserted_fresh, inserted_len, is_some, job_of, key_cmp, keys, keys_total, leaves_by_removal, len-mapped, map_values, mapped-empty, mapped-insert}
use Rattle.slotmap_scheduler.proofs.Common.{mapped-room, mapped-with, nat_cmp_total, none_of, option_map, refl, removed_len, shown_content, some_entry, spot_of, sym, tied, timed, true, unplaced}
use Rattle.slotmap_scheduler.proofs.Common.{vacant_at_most, vec_capacity, vec_len, waiting_of, with_job, with_value, without, ℕ, ◌∙◌}
use Rattle.slotmap_scheduler.proofs.Order.{added, job_is, none_in_order, none_wait, removed, written}
use Rattle.slotmap_scheduler.proofs.{Found.found_in_turn, Found.found_without, HeapPlaces.entry_within}
use Rattle.slotmap_scheduler.proofs.Handles.{handles_content, handles_written, same_handles}
use Rattle.std.specs.FinMap as map

-- a value that is written under a live key
content_written : {V : Type 0} (c : Content V) → IsContent true c → (k : Key) → IsLive c k → (v : V) → IsContent true (with_value c k v)
content_written c valid k live v =
    shown_content c (map.insert c.live k v) (λ q. grind (arith, map.get-insert keys_total c.live k v q, tied keys_total exact_keys q k, live))
    (grind (arith, map.len-insert keys_total c.live k v, live)) true valid

module _ {T : Type 0} (jobs : Content (Job T)) (empty : jobs.live ≡ map.empty) where
  none_live : (timed jobs).live ≡ map.empty
  none_live = ap (map_values unplaced) empty ∙ mapped-empty unplaced

  no_len : map.len (timed jobs).live ≡ 0
  no_len = ap map.len none_live ∙ map.len-empty key_cmp (Turn × T)

  pub none_waits : waiting_of (timed jobs).live ≡ []
  none_waits = none_wait (timed jobs).live 0 (none_in_order (timed jobs).live 0 none_live) no_len

  -- no job is there
  pub schedule_none : {Z : Type 0} (count : ℕ) (heap : Vec Entry Z) → IsContent true jobs → vec_len heap ≡ 0 → map.len jobs.next ≤ vec_capacity heap → IsSchedule jobs count heap
  schedule_none count heap valid none room =
      let order = none_in_order (timed jobs).live count none_live in
      let content = content-mapped unplaced jobs true valid in
      grind (arith, entry_within, map.get-empty {X = Job T} key_cmp, empty, heap.ok.0, no_len)

-- the handles are a content
pub schedule_content : {T Z : Type 0} {jobs : Content (Job T)} {count : ℕ} {heap : Vec Entry Z} → IsSchedule jobs count heap → IsContent true (handles_of (timed jobs) heap)
schedule_content {jobs = jobs} {heap = heap} is = handles_content (timed jobs) heap is.valid is.indexed.len is.room

module _ {T Z : Type 0} {jobs : Content (Job T)} {count : ℕ} {heap : Vec Entry Z} (is : IsSchedule jobs count heap) where
  -- room was made in the map and in the heap
  pub reserved_schedule : (jobs' : Content (Job T)) (heap' : Vec Entry Z) (n : ℕ) (ok : Type 0) → MakesRoom true jobs n ok jobs' → heap'.items ≡ heap.items → vec_len heap' ≡ vec_len heap
      → vec_capacity heap ≤ vec_capacity heap' → IsSchedule jobs' count heap'
  reserved_schedule jobs' heap' n ok makes items len more = grind (arith, content-mapped unplaced jobs' true makes.after, makes.keeps.live)

  -- a job was put in
  module _ (jobs' : Content (Job T)) (k : Key) (time : ℕ) (job : T) (inserts : Inserts (timed jobs) k ((time, count), job) (timed jobs')) where
    unused : map.get (timed jobs).live k ≡ None
    unused = none_of (map.get (timed jobs).live k) (inserted_fresh true (timed jobs) k ((time, count), job) (timed jobs') is.valid inserts)

    put_next : (map.len jobs'.next + 1 ≡ map.len jobs.next) ⊎ (map.len jobs'.next ≡ 0)
    put_next =
        let less = map.len-remove nat_cmp_total jobs.next k.index in
        let some = some_entry nat_cmp_total exact_unsigned jobs.next k.index in
        grind (arith, is.valid.offers inserts.below_limit, ap map.len inserts.next, inserts.offered, some)

    pub put_order : InOrder (timed jobs').live (count + 1) × (waiting_of (timed jobs').live ≡ in_turn (k, (time, job)) (waiting_of (timed jobs).live))
    put_order = rw inserts.live (added (timed jobs).live count is.order k time job unused)

    pub put_len : map.len (timed jobs').live ≡ map.len (timed jobs).live + 1
    put_len = inserted_len true (timed jobs) k ((time, count), job) (timed jobs') is.valid inserts

    pub put_schedule : (heap' : Vec Entry Z) → IsContent true (timed jobs') → IsIndexed jobs' heap' → vec_capacity heap' ≡ vec_capacity heap → IsSchedule jobs' (count + 1) heap'
    put_schedule heap' valid indexed capacity = grind (arith, put_order.0, put_len, put_next, is.room, heap'.ok.1)

    pub put_fresh : job_of k (waiting_of (timed jobs).live) ≡ None
    put_fresh = job_is (timed jobs).live count is.order k ∙ ap (option_map (λ (x : Turn × T). (x.0.0, x.1))) unused

    pub put_found : (q : Key) → job_of q (waiting_of (timed jobs').live) ≡ cond (eq_by_cmp key_cmp q k) (Some (time, job)) (job_of q (waiting_of (timed jobs).live))
    put_found q = ap (job_of q) put_order.1 ∙ found_in_turn k q (time, job) (waiting_of (timed jobs).live) put_fresh

  module _ (k : Key) (j : Job T) (found : map.get jobs.live k ≡ Some j) where
    had : map.get (timed jobs).live k ≡ Some (j.turn, j.job)
    had = get-mapped unplaced jobs.live k ∙ ap (option_map unplaced) found

    less : InOrder (map.remove (timed jobs).live k) count × (waiting_of (map.remove (timed jobs).live k) ≡ without k (waiting_of (timed jobs).live))
    less = removed (timed jobs).live count is.order k j.turn j.job had

    -- it was taken out
    module _ (jobs' : Content (Job T)) (removes : Removes (timed jobs) k (timed jobs')) where
      pub left_waits : waiting_of (timed jobs').live ≡ without k (waiting_of (timed jobs).live)
      left_waits = ap waiting_of removes.live ∙ less.1

      pub left_len : map.len (timed jobs').live + 1 ≡ map.len (timed jobs).live
      left_len = removed_len (timed jobs) k (j.turn, j.job) (timed jobs') had removes

      left_order : InOrder (timed jobs').live count
      left_order = rw removes.live less.0

      pub left_leaves : Leaves (timed jobs) (timed jobs')
      left_leaves = leaves_by_removal true (timed jobs) is.valid k (ap is_some had) (timed jobs') removes

      pub left_schedule : (heap' : Vec Entry Z) → IsContent true (timed jobs') → IsIndexed jobs' heap' → vec_capacity heap' ≡ vec_capacity heap → IsSchedule jobs' count heap'
      left_schedule heap' valid indexed capacity = grind (arith, left_order, left_len, ap map.len removes.next, map.len-insert nat_cmp_total jobs.next, is.room)

    -- it has another turn
    module _ (time : ℕ) (jobs' : Content (Job T)) (turned : timed jobs' ≡ with_value (timed jobs) k ((time, count), j.job)) where
      abbrev again : map.FinMap key_cmp (Turn × T)
      again = map.insert (map.remove (timed jobs).live k) k ((time, count), j.job)

      turned_live : (timed jobs').live ≡ again
      turned_live = ap (λ (c : Content (Turn × T)). c.live) turned ∙ grind (arith, keys)

      pub turned_order : InOrder (timed jobs').live (count + 1) × (waiting_of (timed jobs').live ≡ in_turn (k, (time, j.job)) (without k (waiting_of (timed jobs).live)))
      turned_order =
          let none : map.get (map.remove (timed jobs).live k) k ≡ None = grind (arith, keys) in
          let put = added (map.remove (timed jobs).live k) count less.0 k time j.job none in
          rw turned_live (put.0, put.1 ∙ ap (in_turn (k, (time, j.job))) less.1)

      turned_len : map.len (timed jobs').live ≡ map.len (timed jobs).live
      turned_len = ap (λ (c : Content (Turn × T)). map.len c.live) turned ∙ grind (arith, keys, had)

      pub turned_found : (q : Key) → job_of q (waiting_of (timed jobs').live) ≡ cond (eq_by_cmp key_cmp q k) (Some (time, j.job)) (job_of q (waiting_of (timed jobs).live))
      turned_found q =
          let was = waiting_of (timed jobs).live in
          ap (job_of q) turned_order.1 ∙ grind (arith, found_in_turn k q (time, j.job) (without k was), found_without k k was, found_without k q was, itself keys_total exact_keys k)

      module _ (heap' : Vec Entry Z) (indexed : IsIndexed jobs' heap') (capacity : vec_capacity heap' ≡ vec_capacity heap) where
        pub turned_schedule : IsSchedule jobs' (count + 1) heap'
        turned_schedule = record {
          order = turned_order.0;
          valid = rw turned (content_written (timed jobs) is.valid k (ap is_some had) ((time, count), j.job));
          indexed = indexed;
          room = (let len = turned_len in let next = ap (λ (c : Content (Turn × T)). map.len c.next) turned in let room = is.room in omega arith);
        }

        pub turned_handles : handles_of (timed jobs') heap' ≡ handles_of (timed jobs) heap
        turned_handles = handles_written (timed jobs) (timed jobs') heap heap' k ((time, count), j.job) (ap is_some had) turned (indexed.len ∙ turned_len ∙ sym is.indexed.len) capacity

    -- it is written in its place
    module _ (w : T) where
      abbrev now : Content (Job T)
      now = with_value jobs k (record j { job = w })

      live_written : (timed now).live ≡ map.insert (timed jobs).live k (j.turn, w)
      live_written = mapped-insert unplaced jobs.live k (record j { job = w })

      len_written : map.len (timed now).live ≡ map.len (timed jobs).live
      len_written = ap map.len live_written ∙ grind (arith, keys, had)

      same_spot : (q : Key) → spot_of now.live q ≡ spot_of jobs.live q
      same_spot q = grind (arith, map.get-insert keys_total jobs.live k (record j { job = w }) q, tied keys_total exact_keys q k, found)

      now_written : InOrder (map.insert (timed jobs).live k (j.turn, w)) count × (waiting_of (map.insert (timed jobs).live k (j.turn, w)) ≡ with_job k w (waiting_of (timed jobs).live))
      now_written = written (timed jobs).live count is.order k j.turn j.job had w

      pub written_schedule : IsSchedule now count heap
      written_schedule = record {
        order = rw live_written now_written.0;
        valid = rw (mapped-with unplaced jobs jobs k (record j { job = w })) (content_written (timed jobs) is.valid k (ap is_some had) (j.turn, w));
        indexed = record {
          placed = record { to = λ q p y at. is.indexed.placed.to q p y (sym (same_spot q) ∙ at); from = λ p q y at. same_spot q ∙ is.indexed.placed.from p q y at };
          ordered = is.indexed.ordered;
          len = is.indexed.len ∙ sym len_written;
        };
        room = (let same = len_written in let room = is.room in omega arith);
      }

      pub written_seen : ◌≡◌ {A = Schedule T} (record { waiting = waiting_of (timed now).live; handles = handles_of (timed now) heap; turns = count })
          (record { waiting = with_job k w (waiting_of (timed jobs).live); handles = handles_of (timed jobs) heap; turns = count })
      written_seen =
          let waiting = ap waiting_of live_written ∙ now_written.1 in
          let handles = handles_written (timed jobs) (timed now) heap heap k (j.turn, w) (ap is_some had) (mapped-with unplaced jobs jobs k (record j { job = w })) refl refl in
          λ i. record { waiting = waiting i; handles = handles i; turns = count }

  -- room was made in the map and in the heap, so for the handles
  pub reserved_room : (jobs' : Content (Job T)) (heap' : Vec Entry Z) (n : ℕ) (made ok : Type 0) → MakesRoom true jobs n made jobs' → heap'.items ≡ heap.items
      → vec_len heap' ≡ vec_len heap → vec_capacity heap ≤ vec_capacity heap' → (vec_len heap + n ≤ vec_capacity heap → vec_capacity heap' ≡ vec_capacity heap)
      → (ok → made × (vec_len heap' + n ≤ vec_capacity heap')) → (n ≤ jobs.room → vec_len heap + n ≤ vec_capacity heap → ok)
      → MakesRoom true (handles_of (timed jobs) heap) n ok (handles_of (timed jobs') heap')
  reserved_room jobs' heap' n made ok makes items len more same has had =
      let room = mapped-room unplaced jobs jobs' n made makes in
      let before = schedule_content is in
      let after = schedule_content (reserved_schedule jobs' heap' n made makes items len more) in
      let same_used = used_alone (timed jobs) in
      let live = len-keys_of (timed jobs).live in
      let all = is.indexed.len in
      let keeps = alone-keeps (timed jobs) (timed jobs') room.keeps in
      let had_room = λ (fits : n ≤ (handles_of (timed jobs) heap).room). same_handles (timed jobs) (timed jobs') heap heap' (room.had_room (omega arith)) len (same (omega (arith, heap.ok.1))) in
      grind (arith, room.fits, room.room, room.live_and_more, has, had, had_room, heap.ok.1, room.keeps.room, room.capacity)

-- all jobs were taken out
pub schedule_cleared : {T Z : Type 0} (jobs jobs' : Content (Job T)) (count : ℕ) (heap heap' : Vec Entry Z) → IsSchedule jobs count heap
    → IsContent true jobs' → jobs'.live ≡ map.empty → Leaves jobs jobs'
    → vec_len heap' ≡ 0 → vec_capacity heap' ≡ vec_capacity heap → IsSchedule jobs' count heap'
schedule_cleared {T} jobs jobs' count heap heap' is valid empty leaves none capacity =
    schedule_none jobs' empty count heap' valid none (omega (arith, ap map.len empty ∙ map.len-empty key_cmp (Job T), len-mapped unplaced jobs.live, vacant_at_most jobs jobs' leaves, is.room))
