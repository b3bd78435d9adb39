-- What the answers of this crate cite of std, of the core and of this crate's lemmas, from one place. Declares nothing.
pub use Rattle.std.proofs.Common.{map as list_map, map as map_list}
pub use Rattle.std.proofs.lemmas.List.{set-set, drop-drop, take_rest}
pub use Rattle.slotmap_core.proofs.Common.{CanReplace-next, into_iter_items, reads_as, listing-entries, IsKeyListing-listing, option_copied_mut, content_written, AreRecordClones, used_places-sentinel}
pub use Rattle.slotmap_core.proofs.Common.{with_items_is, in_order_along, into_iter_len, remove_absent, key_exchanged, CallsAt-called, slice_get_read, clones_contents, equal_contents, sentinel_alone}
pub use Rattle.slotmap_core.proofs.Common.{common_steps, vec_capacity, clone_copies, entries_none, append_assoc, last_version, writes_clones, equal_writes, Leaves-removes, Leaves-trans, on_ok_weaker}
pub use Rattle.slotmap_core.proofs.Common.{IsKeyListing, refuses_key, with_items, refl, loan_along, lists_along, map-append, keys_total, len_removed, AllFitBelow, first_taken, used_places}
pub use Rattle.slotmap_core.proofs.Common.{pairs_equal, arith, ◌∙◌, exact_keys, some_entry, append-nil, list_limit, length-map, key_there, with_value, Exchanged, err_not_ok, same_live}
pub use Rattle.slotmap_core.proofs.Common.{records_of, same_Some, length, subst, is_some, rules, vec_len, Accepts, ltb-true, IsKey, IsLive, read_of, if_none, eq-eqb, ne_eqb, none_of, zip_next}
pub use Rattle.slotmap_core.proofs.Common.{slice_get, nat_tests, sym, key, ap, None, Some, [], List, true, inl, false, used, take, set, drop, ℕ}
pub use Rattle.slotmap_core.specs.Words.{value_of}
pub use Rattle.slotmap_hop.proofs.CloneLemmas.{all_links-cloned, IsSound-cloned, has_clones, left_cloned, IsIter-cloned}
pub use Rattle.slotmap_hop.proofs.FromListLemmas.{AreRead-first, AreRead-vacant, AreRead-in_use, IsSound-read, starts-read, reading_counted, read_count, reading_all, slot-written, writes-slots}
pub use Rattle.slotmap_hop.proofs.FromListLemmas.{AreRead, with_slot, can_open, reading_on, Reading, slots-all}
pub use Rattle.slotmap_hop.proofs.HoppingLemmas.{hop_none, way_begins, may_read, finds_here, may_leave, goes_onward, left_here, none_here, IsAt, way_on, way_finds, way_ends, OnTheWay}
pub use Rattle.slotmap_hop.proofs.Iterators.{iter_starts, start_inside, pairs-start, retired-start, pairs-taken, iter_taken, can_go_on, iter_on, left_none}
pub use Rattle.slotmap_hop.proofs.Joining.{ready, front_leads, joins_after, left_tails, back_ready, prev_is, after_head, joins_before, front_ready, joins_between, zero_head, last_is, joins_alone}
pub use Rattle.slotmap_hop.proofs.LiveSlots.{vacant_below, slot_read, read_gives, version_read, sound-rewritten, content-rewritten, contains-version, contains-past, elems_positive, live_within}
pub use Rattle.slotmap_hop.proofs.LiveSlots.{Present, can_free, live_key, value_is}
pub use Rattle.slotmap_hop.proofs.OneBlock.{at_most_on, all_go, AtMost, first_leads_on, back_vacant_still, alone_sound, named_is, named_sound, version_below, read_old, vacates_on, VacantBefore}
pub use Rattle.slotmap_hop.proofs.Retaining.{Retaining, RetainingAt, retaining_starts_at, retaining_may_come, retaining_kept_at, retaining_dropped_at, retaining_ends}
pub use Rattle.slotmap_hop.proofs.RoomLemmas.{vacant_room, spare_room, hop_room_had, hop_room_lacked, grown_granted, grown_refused, room_is}
pub use Rattle.slotmap_hop.proofs.SettledLemmas.{held, at_end, well_formed, back_within, back_key, offered_back, AtEnd, Filled, filled, Took, took_last, took_other}
pub use Rattle.slotmap_hop.proofs.SlotLemmas.{taken_slots, slots_fit, valid, same_length}
pub use Rattle.slotmap_hop.proofs.SlotReads.{length-all_links, all_links_written, places_written, all_links_vacant, place_linked, occupied_read, all_links_retired, leads_within, tails_within, flag_at}
pub use Rattle.slotmap_hop.proofs.SlotReads.{slot_within, values_same, value_read, back_named, next_read, prev_read, links_set, next_set, places_kept, prev_set}
pub use Rattle.slotmap_hop.proofs.Sweeping.{clearing_ends, clearing_blocks, clearing_starts, clearing_removed, indices_left, next_is_least, Clearing, places_left, look_begins, place_comes}
pub use Rattle.slotmap_hop.proofs.Taking.{zero_leads, first_leads, read_back, first, second_head, front_vacant, taken_block, lost_front, shorter_to_one, shorter_longer}
pub use Rattle.slotmap_hop.proofs.WellFormed.{StaysHop-with_value}
pub use Rattle.slotmap_hop.proofs.Writes.{vacancy_kept, flag_read, links_here, flags_kept, leads_kept, tails_kept, ends_kept, keeps_both, nexts_both, prev_both, prevs_both}
pub use Rattle.slotmap_hop.specs.HopContent.{MayStand, StaysHop, IsHopContent, IsNextLive}
pub use Rattle.slotmap_hop.specs.Iter.{pairs_left, FindsSlot, IsIter, Counted, IsRead}
pub use Rattle.slotmap_hop.specs.Links.{blocks_of, prev_at, vacant_at, end_at, HasBlockList}
pub use Rattle.slotmap_hop.specs.Slots.{AllGoOn, CanEmpty, EmptiesAll, all_links, next_place, version_in, places_of, CanFree, value_at, SingleState, Occupied, Single, AreSlotClones, Slot, Back}
