-- What the proofs of this crate cite of std, of the crates below and of its own definitions, from one place. Declares nothing.
pub use Rattle.std.proofs.Common.{Bool, Err, IsOk, List, None, Option, Result, Some, T, [], ap, append-nil, append_assoc, arith, cond, false, get_or, is_some, length}
pub use Rattle.std.proofs.Common.{refl, rules, set as list_set, subst, suc, sym, true, vec_len, zero, ℕ, ◌∙◌}
pub use Rattle.std.proofs.lemmas.Bool.Decides.{nat_tests}
pub use Rattle.std.proofs.lemmas.Cmp.{on_total, then_total}
pub use Rattle.std.proofs.lemmas.Fn.{FoldsTo-push}
pub use Rattle.std.proofs.lemmas.Grind.{common_steps}
pub use Rattle.std.proofs.lemmas.List.{get_or-append_right, get_or-set_other, get_or-set_same, get_or_append_left, get_or_default, get_or_read_under, length-map, length-set, map_push}
pub use Rattle.std.proofs.lemmas.List.{nil_from_length}
pub use Rattle.std.proofs.lemmas.List.Edits.{Swapped}
pub use Rattle.std.proofs.lemmas.List.Elements.{All-cons, All-from_recursion, All-head, All-map, All-nil, All-push, All-tail, same_from_all_zip}
pub use Rattle.std.proofs.lemmas.Map.Lookups.{CmpEqualImpliesEq, exact_pairs, exact_unsigned}
pub use Rattle.std.proofs.lemmas.Option.{slice_get-get_or, slice_get_past, slice_get_read}
pub use Rattle.std.proofs.lemmas.Result.{IfOk-at_ok}
pub use Rattle.std.specs.Borrow.{MutBor}
pub use Rattle.std.specs.Cmp.{IsTotalOrder, nat_cmp_total}
pub use Rattle.std.specs.FinMap.Entries.{below_all, by_order, find, is_sorted, put}
pub use Rattle.std.specs.Fn.{Called, Mut, Takes}
pub use Rattle.std.specs.List.{All, AllByRecursion, AllZip, FoldsTo, SwappedAt, filter, filter_map, slice_get}
pub use Rattle.std.specs.Option.{option_and_then}
pub use Rattle.std.specs.Ordering.{eq_by_cmp, is_lt, nat_cmp}
pub use Rattle.std.specs.Prelude.{map as list_map, min, nat_eq, nat_lt, not, option_map, vec_capacity}
pub use Rattle.std.specs.declared.cmp.Ordering.{Ordering}
pub use Rattle.std.specs.declared.cmp.Ordering.TheVariants.{Less}
pub use Rattle.std.specs.declared.vec.Vec.{Vec}
pub use Rattle.slotmap.proofs.Callers.{alike_or_apart, alone_spent, clone_len, contains-keys_of, exact_keys, get-insert_here, get-insert_other, get_after_insert, get_after_remove, inserted_fresh}
pub use Rattle.slotmap.proofs.Callers.{inserted_len, inserted_not_spent, itself, keys, keys_total, leaves_by_removal, leaves_in_turn, leaves_none, left_spent, len-keys_of, len_removed}
pub use Rattle.slotmap.proofs.Callers.{live-insert_still, none_of, of_some, removed_len, removed_spent, same_lent, same_or_other, same_unlent, some_entry, spent_alone, spent_inserts}
pub use Rattle.slotmap.proofs.Callers.{spent_leaves, spent_removes, tied, untied, vacant_at_most}
pub use Rattle.slotmap.specs.Words.{AreClones, Content, Inserts, IsCloneBy, IsCloneOf, IsContent, IsCopy, IsLive, IsNew, IsSpent, KeepsSpent, Key, Leaves, MakesRoom, Removes, index_after, key_cmp}
pub use Rattle.slotmap.specs.Words.{used, with_value, without_values}
pub use Rattle.slotmap_bounded.proofs.Alone.{alone-copy, alone-inserts, alone-keeps, alone-new, alone-removes, alone-written, used_alone}
pub use Rattle.slotmap_bounded.proofs.Mapped.{contains-mapped, content-mapped, get-mapped, keys-mapped, len-mapped, live-mapped, mapped-clones, mapped-empty, mapped-insert, mapped-inserts}
pub use Rattle.slotmap_bounded.proofs.Mapped.{mapped-leaves, mapped-new, mapped-removes, mapped-room, mapped-stays, mapped-with, mapped-written, some-mapped, used-mapped}
pub use Rattle.slotmap_bounded.proofs.Shown.{shown_content, shown_leaves}
pub use Rattle.slotmap_bounded.specs.Mapped.{map_values}
pub use denote.Param.Always.{always_mut, mut_next}
pub use Rattle.slotmap_scheduler.specs.Drain.{EmptiesSchedule, KeepsLent, SameLoan, YieldsInOrder, yielded_job}
pub use Rattle.slotmap_scheduler.specs.Heap.{IsAbove, IsFirstBelow, IsHeap, IsHeapBut, IsIndexed, IsPlaced, IsSchedule, Jobs, Resettled, count_below, handles_of, heap_entry, is_due_at, is_under}
pub use Rattle.slotmap_scheduler.specs.Heap.{no_entry, spot_of, timed, turn_at, unplaced, up}
pub use Rattle.slotmap_scheduler.specs.Inverse.{IsInverse}
pub use Rattle.slotmap_scheduler.specs.Listed.{Due, IsDueClone, ListsJobs, TakesDue, due_at, left_at, shown}
pub use Rattle.slotmap_scheduler.specs.Retain.{CallableOnJobs, CallsForJob, JobVisit, RetainsJobs, after_visit, after_visits, jobs_seen}
pub use Rattle.slotmap_scheduler.specs.Schedule.{IsByTime, IsOnce, Schedule, Waiting, in_turn, job_of, with_job, without}
pub use Rattle.slotmap_scheduler.specs.Timed.{InOrder, Timed, Turn, as_seen, turn_cmp, waiting_of}
pub use Rattle.slotmap_scheduler.specs.declared.Job.{Job}
pub use Rattle.slotmap_scheduler.specs.declared.drain.Drain.{Drain}
pub use Rattle.slotmap_scheduler.specs.declared.heap.Entry.{Entry}
unfoldable pub use Rattle.slotmap_scheduler.specs.Heap.{due_under, precedes}
unfoldable pub use Rattle.slotmap_scheduler.specs.Timed.{by_turn}
