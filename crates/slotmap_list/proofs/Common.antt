-- What the proofs of this crate cite of std, of the crates below and of its own definitions, from one place. Declares nothing.
pub use Rattle.std.proofs.Common.{zero, length, map as list_map, IsSome, is_some, Result, ◌∙◌, append_assoc, append-nil, length-append, Option, IfSome, IfNone, option_map, option_copied, is_err}
pub use Rattle.std.proofs.Common.{ℕ, suc, IsErr, List, [], Some, None, Ok, Err, IsOk, IfOk, OnOk, inl, inr, refl, sym, ap, subst, arith, Bool, false, cond, true, Bor, rules, not}
pub use Rattle.std.specs.List.{slice_get, cons_option}
pub use Rattle.slotmap.proofs.Callers.{get-insert_here, get-insert_other, removed_here, removed_other, live-insert_still, same_lent, contains-keys_of}
pub use Rattle.slotmap.proofs.Callers.{spent_finds_nothing, inserted_not_spent, keeps_spent_alone, leaves_by_removal, leaves_in_turn, leaves_none}
pub use Rattle.slotmap.proofs.Callers.{tied, same_or_other, same_unlent, vacant_less, alone_spent, len-keys_of, inserted_len, spent_inserts}
pub use Rattle.slotmap.proofs.Callers.{removed_spent, spent_removes, keys_total, exact_keys, itself, untied, clone_live, spent_alone}
pub use Rattle.slotmap.specs.Words.{key_cmp, Content, IsSpent, KeepsSpent, Inserts, IsContent, IsCloneBy, IsCloneOf, AreClones, ClonesEqual, without_values, with_value, MakesRoom, RefusesCapacity}
pub use Rattle.slotmap.specs.Words.{Key, IsNew, Keeps, Leaves, used, IsLive, Removes}
pub use Rattle.slotmap_bounded.proofs.Indices.{some_is, found_only, found_there}
pub use Rattle.slotmap_bounded.specs.Bounded.{bound}
pub use Rattle.slotmap_bounded.specs.Indices.{AreApart, found_at}
pub use Rattle.slotmap_bounded.proofs.Alone.{alone-written, same_live, len_alike, used_alone, alone-copy, alone-inserts, alone-leaves, alone-removes, alone-room, alone-new, alone-space}
pub use Rattle.slotmap_bounded.proofs.Counts.{is_itself, is_other}
pub use Rattle.slotmap_links.proofs.Callers.{list_now, owners_stay}
pub use Rattle.slotmap_links.proofs.Counts.{same, same_or_other as same_or_not, one_itself, one_other, times_first, times_joined, times_gone}
pub use Rattle.slotmap_links.specs.Lists.{Lists, list_of, with_list, times, IsFree, IsIn}
pub use Rattle.slotmap_list.specs.Additions.{Adds, FullAtLimit, refused, FullAfter}
pub use Rattle.slotmap_list.specs.Drain.{EmptiesList, SameLoan, KeepsLent, YieldsInOrder}
pub use Rattle.slotmap_list.specs.Kept.{at_index, elements_at, AreLiveIndices, IsKept, key_there, IsRest, all_of}
pub use Rattle.slotmap_list.specs.ListPlaces.{is_place, put_by_place, put_number, has_place, is_move, moved_to, insert_beside, before_or_back}
pub use Rattle.slotmap_list.specs.Sequence.{Sequence, memory, value_of, key_after, key_before, put_after, put_before, TakesFront, first_or}
pub use Rattle.slotmap_list.specs.Sequence.{from_key, with_value_at, with_last, moved_to_back, put_again, Swaps, last_or, without, IsOnce, are_two}
pub use Rattle.slotmap_list.specs.declared.place.Place.{Place}
pub use Rattle.slotmap_list.specs.declared.place.Place.TheVariants.{Front, Back, Beside}
pub use Rattle.slotmap_list.specs.declared.place.Side.TheVariants.{Before, After}
