-- What the answers of this crate cite of std, of the core and of this crate's lemmas, from one place. Declares nothing.
pub use native.Mathlib.Decide.{dec_lt}
pub use Rattle.std.proofs.Common.{map as list_map}
pub use Rattle.slotmap_core.proofs.Common.{alone_at, NoneBelow-removed, IsContent-with_value, capacity-with_values, get_or_default_zero, CanReplace-next, map as map_list, in_after_remove}
pub use Rattle.slotmap_core.proofs.Common.{removed_places, get-remove_other, content_written, same_from_all_zip, slice_get_within, common_steps, Swept-removed, EmptiesByIndex, in_order_along}
pub use Rattle.slotmap_core.proofs.Common.{entries_none, key_exchanged, CallsAt-called, bitmask_splat, Empties-first, refuses_key, Swept-start, Swept-to, lists_along, first_entry, append_assoc}
pub use Rattle.slotmap_core.proofs.Common.{vec_capacity, get_or-chunk, pairs_equal, len_removed, keys_total, exact_keys, loan_along, map-append, above_next, append-nil, with_value, zip_length}
pub use Rattle.slotmap_core.proofs.Common.{length-map, bit_at_not, ◌∙◌, none_live, NoneBelow, same_Some, key_there, IsContent, Exchanged, same_live, IsCloneOf, bit_mask_l, mask_l-lt, zip2_splat}
pub use Rattle.slotmap_core.proofs.Common.{get_or-map, replicate, arith, sym, IsLive, places, Swept, length, vec_len, if_none, is_some, AllZip, get_or, bit_at, bit_not, mask_l, bit_and, same_read, ap}
pub use Rattle.slotmap_core.proofs.Common.{true, refl, inl, Key, [], List, Some, subst, max, w64, zip2, ℕ, eqb, cond, map, w32}
pub use Rattle.slotmap_core.specs.Words.{value_of}
pub use Rattle.slotmap_slots.specs.Slot.{AreSlotsOf, version_at}
pub use Rattle.slotmap_basic.proofs.AheadLemmas.{count_of_slots, cursor_removed, cursor_of_slots, valid_of_slots, versions-length, live_version, ahead_of_slots, slots_below_limit, cursor_written}
pub use Rattle.slotmap_basic.proofs.AheadLemmas.{live_at_odd, none_odd, odd_at, passed_over}
pub use Rattle.slotmap_basic.proofs.ColumnLemmas.{zip-length, slot_list-versions, slot_list, detached_at, slot_list-length, slot_list-known, zip-with_payload, slot_list-push, slot_list-put}
pub use Rattle.slotmap_basic.proofs.IterClones.{option_clones, zip-clones, pairs_left-clones, IsIter-clones}
pub use Rattle.slotmap_basic.proofs.NumberLemmas.{uses-length, usage-in_use, usage-empty}
pub use Rattle.slotmap_basic.proofs.OddsLemmas.{behind_run, none_left, passed_to, next_from, run_first, run_ahead, odds_refill, below_odd, below_even, odds_start, even_chunk, lowest_gone, others_kept}
pub use Rattle.slotmap_basic.proofs.OddsLemmas.{Below, odds_last, full_run, AllOdd-on, odd_lane, odds_on, odds_next, odds_step}
pub use Rattle.slotmap_basic.proofs.PairsLemmas.{full_slots, Starts, iter_from, Next, next_on, some_left, ends_at, IsIter-taken, left-taken}
pub use Rattle.slotmap_basic.proofs.RetainLemmas.{Going-start, Going-may, Going-end, Going-kept, Going-dropped, Going}
pub use Rattle.slotmap_basic.specs.Ahead.{KnowsLiveKeys}
pub use Rattle.slotmap_basic.specs.Columns.{versions_of, uses_of, AllEven}
pub use Rattle.slotmap_basic.specs.Drain.{drain_loan, drain_live, DrainSteps, DrainCanStep}
pub use Rattle.slotmap_basic.specs.Iter.{IsIter, pairs_left}
pub use Rattle.slotmap_basic.specs.Odds.{HasOdds, IsRun, AllOdd}
