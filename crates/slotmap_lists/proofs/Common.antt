-- What the proofs of this crate cite of std, of the crates below and of its own definitions, from one place. Declares nothing.
pub use Rattle.std.proofs.Common.{zero, suc, get_or, length, map as list_map, set, max, replicate, is_some, ◌∙◌, append_assoc}
pub use Rattle.std.proofs.Common.{append-nil, Option, option_map, option_copied, vec_capacity, IfSome, IfNone, IsSome, ℕ, List}
pub use Rattle.std.proofs.Common.{[], Some, None, inl, inr, refl, sym, ap, subst, arith, Bool, true, false, cond, rules, not}
pub use Rattle.std.proofs.lemmas.List.{get_or-set_same, get_or-set_other, length-map, length-set, map-set}
pub use Rattle.std.proofs.Math.{ListN.get_or-eq_default, ListN.get_or-map as read_map, Nat.eq-zero-or-pos}
pub use Rattle.slotmap.proofs.Callers.{contains-keys_of, len-keys_of, alone_spent, spent_finds_nothing, same_lent, same_unlent, keeps_spent_alone, leaves_by_removal, leaves_none, leaves_in_turn}
pub use Rattle.slotmap.proofs.Callers.{removed_spent, spent_alone, spent_removes, inserted_len, inserted_not_spent, spent_inserts}
pub use Rattle.slotmap.proofs.Callers.{get-insert_here, get-insert_other, removed_here, removed_other, live-insert_still, same_or_other, tied, keys_total, exact_keys, itself}
pub use Rattle.slotmap.specs.Words.{Key, key_cmp, Content, IsLive, IsContent, IsSpent, KeepsSpent, Leaves, Inserts, Removes, IsNew, with_value, without_values}
pub use Rattle.slotmap_bounded.specs.Bounded.{bound, space}
pub use Rattle.slotmap_bounded.proofs.Alone.{alone-space, used-written, alone-inserts, alone-leaves, alone-removes, alone-room, alone-new, used_alone}
pub use Rattle.slotmap_bounded.proofs.{Alone.alone-written, Alone.len_alike, Alone.same_live, Indices.some_is}
pub use Rattle.slotmap_bounded.specs.Indices.{AreApart}
pub use Rattle.slotmap_links.proofs.Callers.{list_now, list_other, owners_stay}
pub use Rattle.slotmap_links.proofs.Counts.{same_or_other as same_or_not, one_itself, one_other, times_first, times_joined, times_gone, times_without}
pub use Rattle.slotmap_links.specs.Lists.{Lists, list_of, with_list, times, IsFree, IsIn}
pub use Rattle.slotmap_list.specs.Kept.{elements_at, key_there, AreLiveIndices}
pub use Rattle.slotmap_list.specs.Sequence.{value_of, first_or, last_or, key_after, key_before, put_after, put_before, without, with_value_at, IsOnce, TakesFront}
pub use Rattle.slotmap_lists.specs.declared.place.Place.{Place}
pub use Rattle.slotmap_lists.specs.declared.place.Place.TheVariants.{Front, Back, Before, After}
pub use Rattle.slotmap_lists.specs.Places.{spot_in, index_put, is_spot, element_put}
pub use Rattle.slotmap_list.proofs.Elements.{Absent, absent, none_there, once_if, once_long, times_none, times_some, times-append, splits}
pub use Rattle.slotmap_list.proofs.Elements.{times as key_times}
pub use Rattle.slotmap_list.proofs.Parts.{IsAt, stands_at, value_there, value_none, next_there, prev_there, first_at, last_at, as_often, element_without, part_left}
pub use Rattle.slotmap_list.proofs.Parts.{elements_first, elements-append, put_between, placed, content_apart, key_found, elements_long}
pub use Rattle.slotmap_lists.specs.Kept.{home_of, one_if, lists_at, AreListed}
pub use Rattle.slotmap_lists.specs.Sequences.{Sequences, memory, elements_of, all_elements, value_under, list_with, number_with, with_elements, without_key, with_value_in, put_into, placed_beside}
