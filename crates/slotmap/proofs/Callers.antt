-- What callers of a map need: the lists `keys` and `secondary` for `using`, and lemmas to cite, all in one module.
use Rattle.slotmap_core.proofs.ForCallers.Callers as core
use Rattle.slotmap_core.proofs.ForCallers.SecondaryCallers as side
use Rattle.slotmap.proofs.MapContents.{contents_of_maps}
pub use Rattle.slotmap_core.proofs.Contents.UndoLemmas.{offer_unused, live_removed_again, live_bound_again, detached_bound_again}
pub use Rattle.slotmap_core.proofs.ForCallers.Callers.{get-insert_here, get-insert_other, inserted_fresh, inserted_len, removed_len, live-insert_still, live-remove_other, insert_still}
pub use Rattle.slotmap_core.proofs.ForCallers.Callers.{get-remove_here as removed_here, get-remove_other as removed_other}
pub use Rattle.slotmap_core.proofs.SecondaryMaps.KeyedLemmas.{get-keyed}
pub use Rattle.slotmap_core.proofs.General.KeyLemmas.{keys_total, exact_keys, tied, untied, itself, alike_or_apart, same_or_other}
pub use Rattle.slotmap_core.proofs.General.Maps.{item_inserted, get_after_insert, get_after_remove, still_in, left_in, len_removed, some_entry, none_of, false_of}
pub use Rattle.slotmap_core.proofs.Several.RetainLemmas.{retained_as, retained_none, retained_counted, retained_unwritten}
pub use Rattle.slotmap_core.proofs.ForCallers.RetainCallers.{retained_but}
pub use Rattle.slotmap_core.proofs.Several.VisitLemmas.{callable_by, callable_on_each}
pub use Rattle.slotmap_core.proofs.ForCallers.SpentLemmas.{spent_stale, spent_finds_nothing, spent_not_detached, live_not_spent}
pub use Rattle.slotmap_core.proofs.ForCallers.SpentLemmas.{spent_inserts, spent_insert, inserted_not_spent, insert_not_spent}
pub use Rattle.slotmap_core.proofs.ForCallers.SpentLemmas.{spent_removes, spent_remove, removed_spent, live_remove_spent, remove_spent}
pub use Rattle.slotmap_core.proofs.ForCallers.SpentLemmas.{spent_leaves, left_spent, spent_keeps, spent_with_value, spent_with_values}
pub use Rattle.slotmap_core.proofs.ForCallers.SpentLemmas.{spent_detach, spent_detaches, spent_reattaches, spent_copy, spent_clone, spent_restores, forgotten_spent}
-- which keys left a map (`Leaves`): none, one by a removal, more in turn, and none by a write
pub use Rattle.slotmap_core.proofs.Contents.LeaveLemmas.{Leaves-refl as leaves_none, Leaves-removes as leaves_by_removal, Leaves-trans as leaves_in_turn, Leaves-with_value as leaves_by_write}
pub use Rattle.slotmap_core.proofs.Contents.CloneLemmas.{same_clone, clone_live, clone_len, clone_copies}
-- the same facts of a content by the records of a `DenseSlotMap` and of a `HopSlotMap`
pub use Rattle.slotmap.proofs.MapContents.{if_none, on_err, of_some, some_copied, insert_undone}
pub use Rattle.slotmap.proofs.MapContents.{dense_well, dense_stays, dense_grows, hop_well, hop_stays, hop_grows}
pub use Rattle.slotmap.proofs.MapSpent.{spent_insert-dense, insert_not_spent-dense, spent_remove-dense, live_remove_spent-dense, remove_spent-dense, spent_detach-dense}
pub use Rattle.slotmap.proofs.MapSpent.{spent_insert-hop, insert_not_spent-hop, spent_remove-hop, live_remove_spent-hop, remove_spent-hop}
-- a content without its values
pub use Rattle.slotmap.proofs.KeysAlone.{contains-keys_of, len-keys_of, spent_alone, alone_spent, keeps_spent_alone}
-- how many slots there are, how many are vacant, and for how many keys there is room: after an insert, after a removal, and
-- once all keys were removed
pub use Rattle.slotmap.proofs.Vacant.{vacant_again, vacant_less, places_inserted, first_of_slot}
pub use Rattle.slotmap.proofs.Vacant.{vacant_at_most, room_again, freed_one, AllFirst, new_first, inserted_first}
-- a structure over a map that lends a value
pub use Rattle.slotmap.proofs.Loans.{same_lent, same_unlent}
pub use Rattle.slotmap_core.proofs.ForCallers.Walks.{Walks, walk_start, walk_here, walk_next, walk_step, walk_end, none_found}
-- the replies of runs, by their positions
pub use Rattle.slotmap_core.proofs.ForCallers.RunCallers.{as_many, Begins, begins, keys_differ, reserved_not_refused}
pub use Rattle.slotmap_core.proofs.ForCallers.RunCallers.{detached_not_returned, StaysDetached, ReattachesOther, stays_detached, detached_bound, detached_bound_or_memory, bound_value}
pub use Rattle.slotmap_core.proofs.ForCallers.SecondaryRuns.{runs_agree, run_seen_by}
-- what was put under a key is found
pub use Rattle.slotmap_core.proofs.ForCallers.ToldCallers.{put_found, one_each, answered, StaysPut, stays_put, Puts, Finds, LeavesAlone}
-- a key that was removed is found by no later command
pub use Rattle.slotmap_core.proofs.ForCallers.RemovalCallers.{removed_finds_nothing, removed_not_found, gone_not_found, StaysAttached, never_detached, drained_removes, joined_removed_not_found}
pub use Rattle.slotmap_run.proofs.LostKeys.{Rejects, Loses, live_lost_not_found, shown_lost_not_found, lost_not_found, fits_good}
pub use Rattle.slotmap_run.proofs.Laws.{empty_good}
-- what was put beside a key
pub use Rattle.slotmap_run.proofs.JoinedCallers.{RemovesOther, WritesOther, put_shown, put_seen, detach_put_shown, detach_put_seen}
-- JSON that is written and read again
pub use Rattle.slotmap_json.proofs.RoundTrips.{key_read_back, key_returned, slots_read_back, slots_not_refused, map_read_back}
-- a side table beside a primary map
pub use Rattle.slotmap_core.proofs.ForCallers.SideTables.{beside_absent, beside_empty, beside_kept, beside_inserted, beside_removed, beside_insert, beside_put, insert_absent}
pub use Rattle.slotmap_core.proofs.ForCallers.SideTables.{live_has_entry, get-put_live, get-put_other, attach_beside, attach_finds, attach_others}
pub use Rattle.slotmap.proofs.TableLemmas.{get-bind_here, get-bind_other, beside_bound, beside_taken}
pub use Rattle.slotmap_core.proofs.SecondaryMaps.AtIndexLemmas.{removed_gone, others_stay as get-remove_other}

pub ruleset keys = (core.keys, contents_of_maps)

-- the same for what a secondary map holds, by its indices or by its keys
pub ruleset secondary = (side.secondary, get-remove_other, get-keyed)
