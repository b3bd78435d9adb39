-- What the answers of this crate cite of std, of the core and of this crate's lemmas, from one place. Declares nothing.
pub use Rattle.std.proofs.Common.{map as list_map, zip}
pub use Rattle.slotmap_core.proofs.Common.{CanReplace-next, IsListingBut-start, IsListingBut-take, IsListingBut-done, IsKeyListing-listing, option_copied_mut, same_from_all_zip, Inserts}
pub use Rattle.slotmap_core.proofs.Common.{map as map_list, into_iter_items, nil_from_length, next_consistent, into_iter_len, slice_get_read, clones_contents, equal_contents, AreRecordClones}
pub use Rattle.slotmap_core.proofs.Common.{common_steps, refuses_key, clone_copies, append_assoc, IsListingBut, vec_capacity, option_copied, key_exchanged, IsRecordClone, slice_get-map, writes_clones}
pub use Rattle.slotmap_core.proofs.Common.{zip_length, loan_along, lists_along, map-append, length_push, append-nil, key_from-odd, IsKeyListing, equal_writes, len_removed, pairs_equal, FoldsTo-push}
pub use Rattle.slotmap_core.proofs.Common.{◌∙◌, sym, with_items, length-map, list_limit, same_read, length-set, firsts-zip, slice_get, option_map, from_front, keys_total, exact_keys, arith}
pub use Rattle.slotmap_core.proofs.Common.{rules, length, IsCopy, Key, reverse, vec_len, Accepts, add-one, odd_of, take_all, same_Some, is_some, key_there, Exchanged, Writes, zip_next, FoldsTo, ap}
pub use Rattle.slotmap_core.proofs.Common.{refl, take, Some, [], List, min, key, subst, false, inl, inr, Visit}
pub use Rattle.slotmap_dense.proofs.CloneLemmas.{dense-clones, same_order, pairs-clones}
pub use Rattle.slotmap_dense.proofs.DrainLemmas.{drained_from_back, EmptiesDense-first}
pub use Rattle.slotmap_dense.proofs.FromBackLemmas.{Taken-start, Taken-next, Taken, last_first, none_left, len_keys}
pub use Rattle.slotmap_dense.proofs.FromListLemmas.{AreSplit, AreSplit-start, AreSplit-live, AreSplit-none, same_places, fewer_read, refuses-positions, IsSound-split, reads-split, stack_alike}
pub use Rattle.slotmap_dense.proofs.PackedLemmas.{IsGapped-removed, listed}
pub use Rattle.slotmap_dense.proofs.PassLemmas.{items-whole, passes-lift, Lifts-values, Going-start, Going-may, Going-rejected, Rejected-stands, Going-dropped, Going-end, shows-read, calls-read}
pub use Rattle.slotmap_dense.proofs.PassLemmas.{may-lift, Ended, Going}
pub use Rattle.slotmap_dense.proofs.RowLemmas.{clones-self, row-payload, row-with_payload}
pub use Rattle.slotmap_dense.proofs.SettledLemmas.{stays-valid, Appended, appended, lent, well_formed, dense_valid, contains, unchanged, present, refused-grow, may-grow, used_is, makes-room, last_key}
pub use Rattle.slotmap_dense.proofs.SettledLemmas.{absent, Closed, closed, read_at, popped}
pub use Rattle.slotmap_dense.proofs.SwapRemoveLemmas.{length-swap_remove, slice_get-left, slice_get-right, set-cut, set-cut_back}
pub use Rattle.slotmap_dense.proofs.WellFormed.{IsSound-other, dense-written, IsDense-with_value, dense_written, IsSound-new}
pub use Rattle.slotmap_dense.specs.Dense.{value_of, EmptiesDense, IsDense, with_value_of}
pub use Rattle.slotmap_dense.specs.Packed.{dense_of, IsSound, live_of, with_packed_value}
pub use Rattle.slotmap_dense.specs.Pass.{Passes, stage, beside, packed_order, Stays}
pub use Rattle.slotmap_dense.specs.Rows.{slot_of_row, slots_of_rows}
