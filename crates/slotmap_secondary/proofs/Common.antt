-- What the answers of this crate cite of std, of the core and of this crate's lemmas, from one place. Declares nothing.
pub use Rattle.slotmap_core.proofs.Common.{sym, map as map_list, AllPut-push_shown, ExtendsBy-stopped, slice_get_within, common_steps}
pub use Rattle.slotmap_core.proofs.Common.{in_order_along, side_list_limit, into_iter_len, vec_capacity, option_copied, listing-entries, into_iter_items, loan_along, lists_taken, AllPut-push}
pub use Rattle.slotmap_core.proofs.Common.{length-set, AllFitBelow, length_push, Taking-next, same_entries, contains_key, without_own, ◌∙◌, some_is, values_of, Taking-end, OwnedIter, option_map}
pub use Rattle.slotmap_core.proofs.Common.{are_equal, Exchanging, from_index, set-get_or, slice_get, take_more, len_taken, length, value_at, AllPut, Option, IfSome, Accepts, vec_len, is_some, eq-eqb}
pub use Rattle.slotmap_core.proofs.Common.{if_none, read_of, FoldsTo, CallsAt, take_all, get_bound, same_Some, ap, arith, get, take, ℕ, true, refl, keyed, rules, Pairs, subst, [], Some}
pub use Rattle.slotmap_core.proofs.Common.{None, inl, inr, cond, Visit, Visits, List, Key, set, in_own}
pub use Rattle.slotmap_secondary.proofs.DrainLemmas.{taken-is, taken-there, taken-above, none_from, taken-first, none_left}
pub use Rattle.slotmap_secondary.proofs.ExtendLemmas.{Grows-put}
pub use Rattle.slotmap_secondary.proofs.FromListLemmas.{read, read-push, pairs-none, count_key, count_empty, IsSound-read, read-contents}
pub use Rattle.slotmap_secondary.proofs.IterLemmas.{entries-slots, IsIter-start, values-slots, counted-values}
pub use Rattle.slotmap_secondary.proofs.PairsAloneLemmas.{keeps_on, with_value_twice, IsWritten-own}
pub use Rattle.slotmap_secondary.proofs.PutAfterLastLemmas.{IsSound-append, content-append, vacant-past, none-null}
pub use Rattle.slotmap_secondary.proofs.ReadLemmas.{at-read, at-past, marked-read, place, entry-at, here, same_read, same_value, nothing-past, stands, key-here, there_read, entry-same, entry-newer}
pub use Rattle.slotmap_secondary.proofs.SlotLemmas.{IsSound-fill_new, IsSound-fill_again, content-write, IsSound-again, IsSound-push, IsSound-clear, content-clear}
pub use Rattle.slotmap_secondary.proofs.SlotLemmas.{count, valid, pairs-push, some_left, IsSound-new, pairs-first}
pub use Rattle.slotmap_secondary.proofs.WellFormed.{well_formed}
pub use Rattle.slotmap_secondary.proofs.WrittenLemmas.{WritesSlots, WritesSlots-start, WritesSlots-push, writes_clones, contents_clones, written_equal, written-writes, written-contents}
pub use Rattle.slotmap_secondary.specs.Content.{IsSideContent}
pub use Rattle.slotmap_secondary.specs.Drain.{side_drain_loan, EmptiesSide, SideDrainSteps, SideDrainCanStep}
pub use Rattle.slotmap_secondary.specs.Extend.{Grows}
pub use Rattle.slotmap_secondary.specs.Iter.{pairs_from, IsIter, values_in}
pub use Rattle.slotmap_secondary.specs.Slots.{pairs_of, pair_in, IsSound}
pub use Rattle.slotmap_secondary.specs.declared.slot.Slot.TheVariants.{Occupied, Vacant}
