-- The words of clauses, from one place: those of std, and those of this crate. Declares nothing.
pub use Rattle.std.specs.Prelude.{Some, List, true, IfOk, length, ℕ, IfErr, map, IfSome, OnErr, OnOk, None, Option, IsOk, [], IfNone, slice_get, IsTrue, false}
pub use Rattle.std.specs.Prelude.{zip, IsSome, refl, option_copied, vec_capacity, OnSome, Ok, swap_remove, Bool, Result, Err, ⊤, drop, IsErr, option_map}
pub use Rattle.std.specs.Prelude.{slice_set, get_or, not, zero, suc, option_and_then, max, min, reverse, slice_index_or, vec_len, is_some, All, filter}
pub use Rattle.std.specs.Prelude.{unwrap_or, MatchOption, take, MatchResult, count_by, Contains, cond, nat_eq, IsSomeAnd, codes, nat_lt}
pub use Rattle.std.specs.Borrow.{MutBor, sem, Lends, Fml, RattleType, LendsIf, GName, Bor, RestsIfErr, LendsBoth, Array, follows, LendsSoOk}
pub use Rattle.std.specs.Cmp.{nat_cmp_total, nat_eq_equiv, unsigned_tied, nat_cmp_is, on_per, on_equiv, tied_itself, Equal-is}
pub use Rattle.std.specs.Cmp.Rules.{hashing}
pub use Rattle.std.specs.Coded.{Coded, code_by, coded×, coded_ℕ, coded_list}
pub use Rattle.std.specs.FinMap.Entries.{find, below_all, is_sorted, is_some-find}
pub use Rattle.std.specs.Fn.{Mut, Takes, Called, FnReturns, Shared, FnReturnsAt}
pub use Rattle.std.specs.Global.{Vec}
pub use Rattle.std.specs.HashMap.{HashMap, hash_map_len, spare, WritesThrough, hash_map_eq}
pub use Rattle.std.specs.HashMap.Eq.{hash_map_eq_from_get, get_from_hash_map_eq}
pub use Rattle.std.specs.Int.{bit_at, bit_not}
pub use Rattle.std.specs.Int.Bits.{or_zero_r}
pub use Rattle.std.specs.Iterator.{UpTo, at_most, YieldsFirstBy, item_count, size, YieldsThen, IsFinite, Drains, Count, MakesProgress}
pub use Rattle.std.specs.Iterator.Runs.{YieldsMutRefsInOrder}
pub use Rattle.std.specs.List.{AllZip, FoldsTo, AllByRecursion, list_any}
unfoldable pub use Rattle.std.specs.List.{IsDistinct}
pub use Rattle.std.specs.Map.{keys_of, lookup}
pub use Rattle.std.specs.Map.Calls.{ModifiesValue, RetainsPairs, SomeCallAtPair}
pub use Rattle.std.specs.Option.{option_copied_mut, UnwrapsOrElse, option_eq, option_or}
pub use Rattle.std.specs.Ordering.{eq_by_cmp, nat_cmp, ordering_then, is_lt, ordering_reverse}
pub use Rattle.std.specs.Result.{result_ok}
pub use Rattle.std.specs.Simd.Lanes.{zip2, mask_l}
pub use Rattle.std.specs.Vec.{with_items}
pub use Rattle.std.specs.Vec.Iter.{into_iter_items, into_iter_len, into_iter_steps}
pub use Rattle.slotmap_core.specs.Key.{Key, key_cmp, IsKey, last_version, null_key, key_from, is_last, is_older, next_version, same_keys, hashed, coded_key}
pub use Rattle.slotmap_core.specs.Key.{ffi}
pub use Rattle.slotmap_core.specs.Content.{IsContent, Content, IsLive, most, used, places, Stands, IsDetached, content_code, Uses, IsStack, IsRetired, IsVacant, HasVacant}
pub use Rattle.slotmap_core.specs.Listing.{IsListing, IsKeyListing, NoneBelow, ListsByIndex, IsValueListing, IsListingBut, with_entries}
pub use Rattle.slotmap_core.specs.Draining.{KeepsLoan, ListsAlong, KeepsAlong, InOrderAlong, drain_count, Along}
pub use Rattle.slotmap_core.specs.Transition.{Removes, Inserts, with_value, Leaves, Detaches, Reattaches, Keeps, IsNew, FreesByIndex, pushed_all}
pub use Rattle.slotmap_core.specs.Transition.{EmptiesByIndex, pushed, Replaces, has_left, TakesPair, TakesFirst, freed, retired_after, keys_left}
pub use Rattle.slotmap_core.specs.Spent.{IsSpent, KeepsSpent}
pub use Rattle.slotmap_core.specs.Call.{StaysValid, MakesRoom, MayGrow}
pub use Rattle.slotmap_core.specs.Clones.{ClonesEqual, IsCloneOf, AreClones}
pub use Rattle.slotmap_core.specs.Copy.{IsCloneBy, IsCopy}
pub use Rattle.slotmap_core.specs.Disjoint.{CanReplace, value_of, with_values, AreValuesOf}
pub use Rattle.slotmap_core.specs.Refusal.{RefusesCapacity, Refuses, RefusesWith, RefusesInsert, RefusesReattach, LacksRoom}
pub use Rattle.slotmap_core.specs.Returned.{uninserted, unattached, with_uninserted, with_unattached}
pub use Rattle.slotmap_core.specs.Retain.{Visit, RetainsBy, CallsAt, CallableOnEach, seen, MayCome, kept}
pub use Rattle.slotmap_core.specs.Given.{RunGiven, given, any_closures, KeepsAt}
pub use Rattle.slotmap_core.specs.Machine.{State, IsIssued, retired, StandsIn, Fresh, after_insert, empty_state, after_remove, after_replace, after_reserve}
pub use Rattle.slotmap_core.specs.Machine.{after_detach, after_reattach, is_retired}
pub use Rattle.slotmap_core.specs.Step.{DetachStep, Step, MayLackMemory, MayLackRoom}
pub use Rattle.slotmap_core.specs.Run.{Run, Unretiring}
pub use Rattle.slotmap_core.specs.Fit.{Fits, Follows, Lasts, Starts, RunFollows, RunsAnew, Continues}
pub use Rattle.slotmap_core.specs.Lifo.{Lifo, IsBasic, stack_reply, after_command, offer_of, top_key, places_after, no_places}
pub use Rattle.slotmap_core.specs.Law.{reply_keys, IsRefusal, keys_told, Laws, DetachLaws, Spares, NoKeyTwice, LastFreedFirst, RemovedForGood}
pub use Rattle.slotmap_core.specs.Law.{GoneForGood, ShowsLive, ShowsNotLive, RemovesKey, LeavesAttached, FindsNothing}
pub use Rattle.slotmap_core.specs.Told.{Knowledge, has, is_live, may_be_live, is_detached, gone, absent, known_from, Agrees, AgreesLive, told, Reads, ReadsWhatWasPut, IndexStaysSmall}
pub use Rattle.slotmap_core.specs.Law.{DetachedNotReissued, DetachedReattaches, ReattachBinds, needs_room, detach_needs_room, ReserveHolds}
pub use Rattle.slotmap_core.specs.Gather.{gather, add}
pub use Rattle.slotmap_core.specs.Places.{Vacant, Live, Place, Detached, Retired, live_entry, retired_entry, left_by, live_value, detached_entry, next_entry}
pub use Rattle.slotmap_core.specs.Places.{is_detached_at}
unfoldable pub use Rattle.slotmap_core.specs.Places.{live, detached, next}
pub use Rattle.slotmap_core.specs.PlaceClones.{IsPlaceClone, ArePlaceClones}
pub use Rattle.slotmap_core.specs.StackMap.{IsStacked, content_of_places, used_places, IsOn, IsVersion, HasVersion, StackMap, offer, vacant_version, IsOnce}
pub use Rattle.slotmap_core.specs.StackMap.{filled, removed, inserted, detached_at, put_at}
pub use Rattle.slotmap_core.specs.Accepted.{list_limit, side_list_limit, Accepts, AllFitBelow, RefusesStart, IsConsistent, AllConsistentBelow, RefusesList, HasEmptyFirst}
pub use Rattle.slotmap_core.specs.FromList.{vacant_slot, start_places, StartsFrom, place_of_record, live_slot, retired_slot, is_vacant_version, start_state}
pub use Rattle.slotmap_core.specs.FromList.{last_issued, issued_slot}
unfoldable pub use Rattle.slotmap_core.specs.FromList.{start_live, start_stack, start_next, start_retired, start_issued}
pub use Rattle.slotmap_core.specs.Written.{Writes, AreRecordClones, records_of, WritesClones, IsRecordClone, record_of, empty_slot, Restores, filled_slot}
pub use Rattle.slotmap_core.specs.Written.{following_version, read_slots}
pub use Rattle.slotmap_core.specs.Secondary.{Pairs, get, contains_key, value_at, bind, remove, entry, IsSecondary, put, vacant, no_entry, entry_at, has_entry}
pub use Rattle.slotmap_core.specs.Secondary.{is_null, occupied, RefusesPut, keyed_entry, Entry, pairs_code}
unfoldable pub use Rattle.slotmap_core.specs.Secondary.{keyed}
pub use Rattle.slotmap_core.specs.Beside.{IsBeside}
pub use Rattle.slotmap_core.specs.OrPut.{OrPuts}
pub use Rattle.slotmap_core.specs.SecondaryStep.{given_secondary, LooksAt}
pub use Rattle.slotmap_core.specs.SecondaryLaw.{HadMemory, Shows, seen_by, EachAgrees}
pub use Rattle.slotmap_core.specs.Joined.{Joined, named, RunsBeside, given_joined}
pub use Rattle.slotmap_core.specs.Dictionary.{Dictionary, WithDictionary, DictionaryStep, DetachDictionaryStep, RunsByDictionary, unused, noted}
pub use Rattle.slotmap_core.specs.Dictionary.{RepliesByDictionary}
pub use Rattle.slotmap_core.specs.JoinedLaw.{JoinedFindsNothing, JoinedRemovedForGood}
pub use Rattle.slotmap_core.specs.SecondaryEqual.{AreEqual, are_equal, are_equal_laws, are_equal_equiv, same_entries, SameValue}
pub use Rattle.slotmap_core.specs.SecondaryExtend.{AllPut, values_of, ExtendsBy, Extends}
pub use Rattle.slotmap_core.specs.SecondaryWritten.{record_of_pair, slot_pair}
pub use Rattle.slotmap_core.specs.SecondaryClones.{HasClones}
pub use Rattle.slotmap_core.specs.ListRead.{ReadsAs}
