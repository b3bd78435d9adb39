-- The handles of a scheduler: the keys of its jobs, with the room that the map and the heap have.
use Rattle.std.proofs.Common.{◌+◌, ◌-◌, ◌≡◌, ◌≤◌}
use Rattle.slotmap.specs.KeysAlone.{keys_of}
use Rattle.slotmap_bounded.specs.Mapped.{map_values}
use Rattle.slotmap_scheduler.proofs.Common.{Content, Entry, Inserts, IsCloneBy, IsContent, IsCopy, IsLive, IsNew, IsSpent, Job, KeepsSpent, Key, Leaves, List, Removes, Some, Turn, Vec, alone-copy}
use Rattle.slotmap_scheduler.proofs.Common.{alone-inserts, alone-new, alone-removes, alone-written, alone_spent, ap, arith, contains-keys_of, handles_of, inserted_not_spent, key_cmp, len-keys_of}
use Rattle.slotmap_scheduler.proofs.Common.{mapped-empty, min, refl, shown_content, shown_leaves, spent_alone, timed, true, unplaced, used, used-mapped, used_alone, vacant_at_most, vec_capacity}
use Rattle.slotmap_scheduler.proofs.Common.{vec_len, with_value, without_values, ℕ, ◌∙◌}
use Rattle.std.specs.FinMap as map

pub empty_keys : {V : Type 0} (m : map.FinMap key_cmp V) → m ≡ map.empty → keys_of m ≡ map.empty
unfolding keys_of map_values
empty_keys {V} m is = ap keys_of is ∙ mapped-empty {W = Unit {0}} (λ (v : V). tt)

module _ {T Z : Type 0} where
  -- the room matters to no handle
  module _ (jobs : Content (Turn × T)) (heap : Vec Entry Z) (k : Key) where
    pub handles_spent : IsSpent jobs k → IsSpent (handles_of jobs heap) k
    handles_spent spent = let alone = spent_alone jobs k spent in search arith

    spent_handles : IsSpent (handles_of jobs heap) k → IsSpent jobs k
    spent_handles spent = alone_spent jobs k (search arith)

  -- what a call on the map leaves
  module _ (old new : Content (Turn × T)) (heap heap' : Vec Entry Z) where
    pub handles_stale : KeepsSpent old new → KeepsSpent (handles_of old heap) (handles_of new heap')
    handles_stale keeps k spent = handles_spent new heap' k (keeps k (spent_handles old heap k spent))

    module _ (k : Key) (v : Turn × T) (inserts : Inserts old k v new) where
      pub handles_unspent : IsContent true old → IsSpent (handles_of old heap) k → ⊥
      handles_unspent well spent = inserted_not_spent old new true well k v inserts k (spent_handles old heap k spent) refl

      pub handles_inserted : vec_len heap' ≡ vec_len heap + 1 → vec_capacity heap ≤ vec_capacity heap' → Inserts (handles_of old heap) k tt (handles_of new heap')
      handles_inserted len capacity = let alone = alone-inserts old new k v inserts in search arith

    pub handles_removed : (k : Key) → Removes old k new → vec_len heap' + 1 ≡ vec_len heap → vec_capacity heap' ≡ vec_capacity heap → Removes (handles_of old heap) k (handles_of new heap')
    handles_removed k removes len capacity = grind (arith, alone-removes old new k removes, len, capacity, heap.ok.1)

    -- as many entries leave the heap as jobs leave the map, or more
    pub handles_left : Leaves old new → vec_len heap' ≤ vec_len heap → vec_len heap' + map.len old.live ≤ vec_len heap + map.len new.live
        → vec_capacity heap' ≡ vec_capacity heap → Leaves (handles_of old heap) (handles_of new heap')
    handles_left leaves fewer len capacity =
        let alone = shown_leaves old new (keys_of old.live) (keys_of new.live) (contains-keys_of old.live) (len-keys_of old.live) (contains-keys_of new.live) (len-keys_of new.live) leaves in
        grind (arith, vacant_at_most old new leaves, heap.ok.1)

    pub same_capacity : new.capacity ≡ old.capacity → vec_capacity heap' ≡ vec_capacity heap → (handles_of new heap').capacity ≡ (handles_of old heap).capacity
    same_capacity map heap i = min (map i) (heap i)

    pub same_handles : new ≡ old → vec_len heap' ≡ vec_len heap → vec_capacity heap' ≡ vec_capacity heap → handles_of new heap' ≡ handles_of old heap
    same_handles same len capacity i = record (without_values (same i)) { room = min (same i).room (capacity i - len i); capacity = min (same i).capacity (capacity i) }

    -- a job that is written changes no handle
    pub handles_written : (k : Key) (v : Turn × T) → IsLive old k → new ≡ with_value old k v → vec_len heap' ≡ vec_len heap
        → vec_capacity heap' ≡ vec_capacity heap → handles_of new heap' ≡ handles_of old heap
    handles_written k v live is len capacity = grind (arith, alone-written old k v live)

    pub handles_copied : (is_clone : Turn × T → Turn × T → Type 0) → IsCloneBy is_clone old new → IsCopy (handles_of old heap) (handles_of new heap')
    handles_copied is_clone clones = let alone = alone-copy is_clone old new clones in search arith

  -- the handles are a content of their own
  pub handles_content : (jobs : Content (Turn × T)) (heap : Vec Entry Z) → IsContent true jobs → vec_len heap ≡ map.len jobs.live → map.len jobs.live + map.len jobs.next ≤ vec_capacity heap
      → IsContent true (handles_of jobs heap)
  handles_content jobs heap valid all space =
      let well = shown_content jobs (keys_of jobs.live) (contains-keys_of jobs.live) (len-keys_of jobs.live) true valid in
      let live = len-keys_of jobs.live in
      let lists = λ (stack : List ℕ) (is : jobs.stack ≡ Some stack). (well.stacked stack is).lists in
      let once = λ (stack : List ℕ) (is : jobs.stack ≡ Some stack). (well.stacked stack is).once in
      let top = λ (stack : List ℕ) (is : jobs.stack ≡ Some stack). (well.stacked stack is).top in
      grind (arith, lists, once, top, heap.ok.1)

  pub handles_new : (jobs : Content (Turn × T)) (heap : Vec Entry Z) → IsNew jobs → IsNew (handles_of jobs heap)
  handles_new jobs heap new = let alone = alone-new jobs new in search arith

  pub used_handles : (jobs : Content (Job T)) (heap : Vec Entry Z) → used (handles_of (timed jobs) heap) ≡ used jobs
  used_handles jobs heap = let alone = used_alone (timed jobs) in let same = used-mapped unplaced jobs in omega arith
