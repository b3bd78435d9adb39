-- What the proofs of the crates above cite, from one place: definitions and lemmas of std and of this crate. Declares nothing.
pub use Rattle.std.proofs.Common.{arith, ap, ◌∙◌, refl, sym, length, Some, List, ℕ, [], true, subst, map, is_some, rules, None, slice_get, false, Option, inl, cond, set, Bool, vec_capacity}
pub use Rattle.std.proofs.Common.{suc, zero, inr, take, get_or, vec_len, option_map, append-nil, eq-eqb, append_assoc, drop, nat_eq, ne_eqb, IsSome, eqb, min, Ok, nat_cmp, Result, Err, max, not}
pub use Rattle.std.proofs.Common.{option_and_then, ⊎_elim, reverse, add-one, w64, eqb-true, option_copied, IfOk, OnErr, IsErr, bit_and, ltb-true, length-append, T, OnOk, IsOk, is_ok, Bor, OnSome}
pub use Rattle.std.proofs.Common.{IfNone, bit_or, replicate, w32, nat_le, IfSome, count_by, MutBor, Vec, Global, IfErr, drop-cons}
pub use Rattle.std.proofs.Math.ListN.{get_or-map}
pub use Rattle.std.proofs.Math.Nat.{eq-zero-or-pos}
pub use Rattle.std.proofs.Math.Seq.{map-set_same, set-append_seam}
pub use Rattle.std.proofs.iter.runs.Sources.{from_front}
pub use Rattle.std.proofs.lemmas.Bool.{cases_eq, cases_lt, true≢false, cases_Bool, or_right, or_left}
pub use Rattle.std.proofs.lemmas.Bool.Decides.{nat_tests}
pub use Rattle.std.proofs.lemmas.Cmp.{nat_cmp_total}
pub use Rattle.std.proofs.lemmas.Fn.{FoldsTo-push, says_at}
pub use Rattle.std.proofs.lemmas.Grind.{common_steps, get_or_default_zero}
pub use Rattle.std.proofs.lemmas.List.{length-map, length_push, length-set, map-append, map-set, nil_from_length, map_push, take_all, with_items_is, drop_all, drop_more, drop-set-lt, reverse-append}
pub use Rattle.std.proofs.lemmas.List.{get_or-set_same, get_or-set_other, set-get_or, take_more, length-drop, get_or-drop, take_at, length-take, get_or-take, set-append_left, set-append_right}
pub use Rattle.std.proofs.lemmas.List.{take-map, get_or_past, map_more, take-append-drop}
pub use Rattle.std.proofs.lemmas.List.Elements.{same_from_all_zip, All-nil, All-cons, All-push, All-weaker, AllZip-push}
pub use Rattle.std.proofs.lemmas.List.Sums.{sum_by-cons}
pub use Rattle.std.proofs.lemmas.Map.{lookup-none}
pub use Rattle.std.proofs.lemmas.Map.Entries.{lookup_head, none_past_head}
pub use Rattle.std.proofs.lemmas.Map.Lookups.{exact_unsigned}
pub use Rattle.std.proofs.lemmas.Nat.Bits.{bit_at-zero, bit_at-suc, bit_at_lowest, bit_at_and, bit_at_set_same, bit_at_set_other, bit_at_ones, bit_at_not, bit_at-trailing_zeros}
pub use Rattle.std.proofs.lemmas.Option.{slice_get_within, same_Some, slice_get-map, slice_get_read, slice_get_past, get_or_from_slice_get, slice_get-get_or, gets, slice_get_cases}
pub use Rattle.std.proofs.lemmas.Result.{IfOk-weaker, on_ok_weaker, on_err_weaker}
pub use Rattle.std.proofs.lemmas.Simd.{get_or-chunk, bitmask_splat, bit_mask_l, mask_l-lt, zip2_splat}
pub use Rattle.std.proofs.lemmas.Slice.Zip.{length-zip, firsts-zip, seconds-zip, all_zipped_more}
pub use Rattle.slotmap_core.proofs.Contents.CloneLemmas.{pairs_equal, clone_copies, IsContent-with_live}
pub use Rattle.slotmap_core.proofs.Contents.ContentLemmas.{IsContent-with_value, live_at, IsContent-stacked, kept_at, room_had}
pub use Rattle.slotmap_core.proofs.Contents.DrainingLemmas.{loan_along, lists_along, in_order_along, along, kept_along}
pub use Rattle.slotmap_core.proofs.Contents.IndexLemmas.{from_index, get-remove_other, none_live, from_index-start, alone_at, NoneBelow-removed, from_index-end, NoneBelow-end, in_from}
pub use Rattle.slotmap_core.proofs.Contents.LeaveLemmas.{same_live, Leaves-refl, Leaves-removed, Leaves-trans, Leaves-with_value, Leaves-removes}
pub use Rattle.slotmap_core.proofs.Contents.OrderLemmas.{entries_none, entries_first, pushed_all_push, greater, put_last}
pub use Rattle.slotmap_core.proofs.Contents.Retired.{in_retired}
pub use Rattle.slotmap_core.proofs.Contents.StandsLemmas.{new_stands, Vacates, same_vacant, kept_stands, replaced_stands, detached_stands, reattached_stands, removed_stands, removed_vacant}
pub use Rattle.slotmap_core.proofs.Contents.StandsLemmas.{left_stands, left_vacant, inserted_stands, inserted_vacant}
pub use Rattle.slotmap_core.proofs.Contents.StepLemmas.{inserts, content-written, removes, keeps, detaches, reattaches}
pub use Rattle.slotmap_core.proofs.Contents.SweepLemmas.{Swept-start, Swept, Swept-removed, Swept-to, first_entry, above_next, Swept-on, Swept-next, next_entry, Empties-first, IsNextLive}
pub use Rattle.slotmap_core.proofs.Contents.UndoLemmas.{offer_unused}
pub use Rattle.slotmap_core.proofs.ForCallers.Callers.{keys, inserted_fresh, inserted_len, not_detached-grows}
pub use Rattle.slotmap_core.proofs.ForCallers.SecondaryCallers.{secondary}
pub use Rattle.slotmap_core.proofs.ForCallers.SecondaryRuns.{run_seen_by, each_agrees}
pub use Rattle.slotmap_core.proofs.ForCallers.SpentLemmas.{spent_insert, insert_not_spent, spent_remove, live_remove_spent, remove_spent, spent_detach}
pub use Rattle.slotmap_core.proofs.FromList.AtKeysLemmas.{slot_vacant, in_contents, live_in, live_fits, vacant_split, vacant_is}
pub use Rattle.slotmap_core.proofs.FromList.ReadsAsLemmas.{next_consistent, reads_as, first_taken}
pub use Rattle.slotmap_core.proofs.FromList.StartFits.{starts-stack}
pub use Rattle.slotmap_core.proofs.FromList.StartLemmas.{odd_of, even_where, vacant_place, start_places-push, length-start_places, start_place_at}
pub use Rattle.slotmap_core.proofs.FromList.StartStack.{start_stack-push, IsStacked-start_places}
pub use Rattle.slotmap_core.proofs.FromList.WrittenClones.{writes_clones, clones_contents, equal_writes, equal_contents}
pub use Rattle.slotmap_core.proofs.FromList.WrittenLemmas.{writes-stack, written-accepted, written-contents, writes-places}
pub use Rattle.slotmap_core.proofs.General.GatherLemmas.{slice_get-set_other, slice_get_push, at_push, slice_get-set_same, slice_get_push_other, at_set, gather-push_put, gather-push_same, len-add}
pub use Rattle.slotmap_core.proofs.General.GatherLemmas.{IsFinite, get-gather, gather-set_put, gather-set_remove}
pub use Rattle.slotmap_core.proofs.General.KeyLemmas.{keys_total, exact_keys, itself, tied, key_from-odd, same_or_other, untied}
pub use Rattle.slotmap_core.proofs.General.ListLemmas.{same_read, found_within, zip_length, zip_next, mapped, none_from, zip_left, if_none, read_of, zip_drop, zip_right, zip_self, err_not_ok}
pub use Rattle.slotmap_core.proofs.General.ListingLemmas.{IsKeyListing-listing, remove-insert, IsListingBut-start, IsListingBut-take, IsListingBut-done}
pub use Rattle.slotmap_core.proofs.General.MapLaws.{remove_absent, live_laws, detached_laws, map_laws}
pub use Rattle.slotmap_core.proofs.General.Maps.{len_removed, some_is, false_of, in_after_remove, len_inserted, none_of, some_entry, get_inserted, get_other, get_after_insert, get_left, get_removed}
pub use Rattle.slotmap_core.proofs.General.Maps.{in_inserted, same_len, same_bool, same_at, item_inserted, get_after_remove, still_in, insert_same, item_after_insert, item_still, len_item_removed}
pub use Rattle.slotmap_core.proofs.General.OwnedIterLemmas.{OwnedIter, Taking-next, Taking-end, Taking-here}
pub use Rattle.slotmap_core.proofs.Places.InOrderLemmas.{listing-entries, entries-live, entries_from}
pub use Rattle.slotmap_core.proofs.Places.PlaceClones.{clone_is_some, live-clones, IsStacked-clones, content-clones, detached-clones, retired-clones, next-clones, length-clones, cloned_at}
pub use Rattle.slotmap_core.proofs.Places.PlaceClones.{vacant_there}
pub use Rattle.slotmap_core.proofs.Places.PlaceCount.{removed_places, kept_places, detached_places, reattached_places, places_grow, replaced_places, offer_free, free}
pub use Rattle.slotmap_core.proofs.Places.PlacesLemmas.{key, get-live_at, len-live-push, len-live-set, total, contains-detached, sentinel_alone, get-live, get-next_at, vacant_at, retired_fits}
pub use Rattle.slotmap_core.proofs.Places.StackLemmas.{IsStacked-filled, IsStacked-pushed, IsStacked-sentinel, live-sentinel, IsStacked-kept, IsStacked-freed, used_places-sentinel, not_on, not_first}
pub use Rattle.slotmap_core.proofs.SecondaryMaps.AtIndexLemmas.{in_own, bind_twice, get_here, pair_of, same_version, get_stands, without_own, len_taken, index_stands, lent_is, entry_absent, removed}
pub use Rattle.slotmap_core.proofs.SecondaryMaps.AtIndexLemmas.{vacant_not_null, IsSecondary-empty, IsSecondary-bind, IsSecondary-put, IsSecondary-remove, not_null_at, put_at, entry_here, entry_other}
pub use Rattle.slotmap_core.proofs.SecondaryMaps.AtIndexLemmas.{removed_gone, others_stay}
pub use Rattle.slotmap_core.proofs.SecondaryMaps.KeyedLemmas.{get-keyed, contains-keyed, keyed-remove, len-keyed, entries-keyed, alone-keyed, keyed-bind, tie_parts}
pub use Rattle.slotmap_core.proofs.SecondaryMaps.OtherKeyLemmas.{stands_after_put, newest_put, newer_stays, stands_after_remove}
pub use Rattle.slotmap_core.proofs.SecondaryMaps.SecondaryClonesLemmas.{IsPairClone, HasClones-by_index}
pub use Rattle.slotmap_core.proofs.SecondaryMaps.SecondaryDrains.{remove_there, lists_taken}
pub use Rattle.slotmap_core.proofs.SecondaryMaps.SecondaryEqualLemmas.{equal_where}
pub use Rattle.slotmap_core.proofs.SecondaryMaps.SecondaryExtendLemmas.{AllPut-push, AllPut-push_shown}
pub use Rattle.slotmap_core.proofs.SecondaryMaps.SecondaryLemmas.{get_bound, value_of, value_of_entry, null_finds_nothing}
pub use Rattle.slotmap_core.proofs.SecondaryMaps.SecondaryWrittenLemmas.{contents_by_place, contents_written}
pub use Rattle.slotmap_core.proofs.SecondaryMaps.StoppedExtends.{ExtendsBy-stopped}
pub use Rattle.slotmap_core.proofs.Several.DisjointLemmas.{content_written, capacity-with_values}
pub use Rattle.slotmap_core.proofs.Several.KeyedVisits.{Keyed-same, Keyed-from_start, Keyed-may_come, Keyed-next, Keyed-done, Keyed-at, Keyed-past, Keyed-to_end}
pub use Rattle.slotmap_core.proofs.Several.ReplaceLemmas.{refuses_key, key_there, key_exchanged, IsSecondary-again, len_again, Exchanging, pair_there, Exchanging-step}
pub use Rattle.slotmap_core.proofs.Several.RetainLemmas.{retained_none, retained_at}
pub use Rattle.slotmap_core.proofs.Several.SeveralLemmas.{CanReplace-next, Exchanged, WriteLaws}
pub use Rattle.slotmap_core.proofs.Several.VisitLemmas.{Visits, CallsAt-called, Visits-listed, Visits-stay, Visits-rest, Visits-start, Visits-call, callable_on_each, seen_push}
pub use Rattle.slotmap_core.specs.Words.{zip, swap_remove, All, filter, MatchOption, IsSomeAnd, nat_eq_equiv, unsigned_tied, nat_cmp_is, find, below_all, is_sorted, is_some-find, Mut, Takes, Called}
pub use Rattle.slotmap_core.specs.Words.{HashMap, hash_map_len, spare, WritesThrough, hash_map_eq, hash_map_eq_from_get, get_from_hash_map_eq, bit_at, bit_not, YieldsFirstBy, MakesProgress, AllZip}
pub use Rattle.slotmap_core.specs.Words.{FoldsTo, AllByRecursion, list_any, keys_of, lookup, RetainsPairs, SomeCallAtPair, option_copied_mut, option_eq, eq_by_cmp, ordering_then, is_lt, result_ok}
pub use Rattle.slotmap_core.specs.Words.{zip2, mask_l, with_items, into_iter_items, into_iter_len, Key, key_cmp, IsKey, last_version, null_key, key_from, is_last, is_older, IsContent, Content, IsLive}
pub use Rattle.slotmap_core.specs.Words.{most, used, places, Stands, IsDetached, IsListing, IsKeyListing, NoneBelow, IsListingBut, with_entries, Along, Removes, Inserts, with_value, Leaves, Detaches}
pub use Rattle.slotmap_core.specs.Words.{Reattaches, Keeps, IsNew, pushed_all, EmptiesByIndex, pushed, Replaces, StaysValid, MakesRoom, MayGrow, ClonesEqual, IsCloneOf, AreClones, IsCloneBy, IsCopy}
pub use Rattle.slotmap_core.specs.Words.{CanReplace, RefusesCapacity, Refuses, RefusesWith, RefusesReattach, LacksRoom, Visit, RetainsBy, CallsAt, CallableOnEach, seen, MayCome, kept, RunGiven, given}
pub use Rattle.slotmap_core.specs.Words.{any_closures, KeepsAt, State, IsIssued, retired, StandsIn, Fresh, after_insert, empty_state, after_remove, after_replace, after_reserve, after_detach}
pub use Rattle.slotmap_core.specs.Words.{after_reattach, DetachStep, Step, MayLackMemory, MayLackRoom, Run, Unretiring, Fits, Follows, Lasts, Starts, RunFollows, RunsAnew, Continues, Lifo, IsBasic}
pub use Rattle.slotmap_core.specs.Words.{stack_reply, after_command, offer_of, top_key, places_after, no_places, reply_keys, IsRefusal, keys_told, Laws, DetachLaws, Spares, NoKeyTwice, LastFreedFirst}
pub use Rattle.slotmap_core.specs.Words.{RemovedForGood, DetachedNotReissued, DetachedReattaches, ReattachBinds, needs_room, detach_needs_room, ReserveHolds, gather, Vacant, Live, Place, Detached}
pub use Rattle.slotmap_core.specs.Words.{Retired, live_entry, retired_entry, left_by, live_value, IsPlaceClone, ArePlaceClones, IsStacked, content_of_places, used_places, IsOn, IsVersion, HasVersion}
pub use Rattle.slotmap_core.specs.Words.{StackMap, offer, vacant_version, IsOnce, filled, inserted, Accepts, list_limit, side_list_limit, AllFitBelow, RefusesStart, IsConsistent, vacant_slot}
pub use Rattle.slotmap_core.specs.Words.{start_places, StartsFrom, place_of_record, live_slot, retired_slot, is_vacant_version, Writes, AreRecordClones, records_of, IsRecordClone, record_of}
pub use Rattle.slotmap_core.specs.Words.{empty_slot, Restores, Pairs, get, contains_key, value_at, bind, remove, entry, IsSecondary, put, vacant, no_entry, entry_at, is_null, occupied, RefusesPut}
pub use Rattle.slotmap_core.specs.Words.{keyed_entry, Entry, given_secondary, LooksAt, Joined, named, RunsBeside, Dictionary, WithDictionary, DictionaryStep, DetachDictionaryStep, RunsByDictionary}
pub use Rattle.slotmap_core.specs.Words.{unused, noted, RepliesByDictionary, AreEqual, are_equal, same_entries, SameValue, AllPut, values_of, record_of_pair, slot_pair, HasClones, ReadsAs}
unfoldable pub use Rattle.slotmap_core.specs.Words.{IsDistinct, live, detached, next, start_live, start_stack, start_next, start_retired, keyed}
