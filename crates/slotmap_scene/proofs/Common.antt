-- What the proofs of this crate cite of std, of the crates below and of its own definitions, from one place. Declares nothing.
pub use Rattle.std.proofs.Common.{Bool, Err, IfNone, IfOk, IfSome, IsErr, IsOk, IsSome, List, None, Ok, OnErr, Option, Result, Some, [], ap, append-nil, append_assoc, arith, cond, false, get_or, inl}
pub use Rattle.std.proofs.Common.{inr, is_some, length, length-append, map as list_map, nat_eq, not, option_map, refl, rules, set, subst, suc, sym, take, true, zero, ℕ, ◌∙◌}
pub use Rattle.std.proofs.Math.IntN.{+ℤ_assoc, ℤ}
pub use Rattle.std.proofs.Math.ListN.{get_or-map}
pub use Rattle.std.proofs.Math.Nat.{eq-zero-or-pos}
pub use Rattle.std.proofs.lemmas.Bool.Decides.{nat_tests}
pub use Rattle.std.proofs.lemmas.Fn.{FoldsTo-push}
pub use Rattle.std.proofs.lemmas.Grind.{common_steps}
pub use Rattle.std.proofs.lemmas.Int.{int_wrap-add_left, int_wrap-add_right, wraps}
pub use Rattle.std.proofs.lemmas.List.{get_or-set_other, get_or-set_same, length-map, length-replicate, length-set, map-append, map_push, take-append-le, take_all, take_more}
pub use Rattle.std.proofs.lemmas.List.Elements.{All-cons, All-head, All-nil, All-push, All-tail}
pub use Rattle.std.proofs.lemmas.Option.{IfSome_then, same_Some}
pub use Rattle.std.proofs.lemmas.Simd.{map-map}
pub use Rattle.std.specs.Borrow.{Bor}
pub use Rattle.std.specs.Fn.{Mut, Takes}
pub use Rattle.std.specs.Int.{int_wrap, w32}
pub use Rattle.std.specs.List.{All, FoldsTo, each_same, filter, fold}
pub use Rattle.slotmap.proofs.Callers.{clone_copies, clone_live, exact_keys, get-insert_here, get-insert_other, inserted_fresh, keys, keys_total, leaves_by_removal, leaves_by_write, leaves_in_turn}
pub use Rattle.slotmap.proofs.Callers.{leaves_none, left_spent, len_removed, live-insert_still, none_of, same_lent, same_or_other, same_unlent, some_entry, spent_inserts, spent_keeps, spent_leaves}
pub use Rattle.slotmap.proofs.Callers.{none_found, of_some}
pub use Rattle.slotmap.specs.Words.{ClonesEqual, Content, Inserts, IsCloneBy, IsCloneOf, IsContent, IsLive, Keeps, KeepsSpent, Key, Leaves, MakesRoom, key_cmp, most, same_keys, used}
pub use Rattle.slotmap_bounded.proofs.Indices.{back_has, back_key, by_live, first_index, first_key, found_has, found_live, found_same, found_zero, front_has, front_key, indices_inserted}
pub use Rattle.slotmap_bounded.proofs.Indices.{indices_still, key_at_live, key_is, keys_same, keys_without, last_key, later_indices, no_key, same_at, some_is, times_key}
pub use Rattle.slotmap_bounded.proofs.Alone.{bound_grows, used-written}
pub use Rattle.slotmap_bounded.specs.Bounded.{bound, bound_with, space}
pub use Rattle.slotmap_bounded.specs.Indices.{AreIndices, HasKey, HaveIndices, found_at, key_at, keys_at}
pub use Rattle.slotmap_bounded.proofs.Alone.{len_alike}
pub use Rattle.slotmap_bounded.proofs.Changed.{changed_gives, changed_here, changed_keeps, changed_other}
pub use Rattle.slotmap_bounded.proofs.Counts.{as_many, is_itself, is_other, no_more_than, one_itself, one_other, times_first}
pub use Rattle.slotmap_bounded.proofs.Counts.{times_gone, times_joined, times_pushed, times_without, without_none, without_pushed}
pub use Rattle.slotmap_bounded.proofs.Linking.{in_midst, none_last, split_at}
pub use Rattle.slotmap_bounded.proofs.MapKeys.{key_live, key_there, keys_once}
pub use Rattle.slotmap_bounded.proofs.Mapped.{entries-made, get-made, made, some-mapped}
pub use Rattle.slotmap_bounded.proofs.Shown.{shown_content, shown_inserts, shown_leaves, shown_makes_room, shown_spent}
pub use Rattle.slotmap_bounded.specs.Changed.{changed, changed_in}
pub use Rattle.slotmap_bounded.specs.KeyLists.{is_key, last_or, same, times, without}
pub use Rattle.slotmap_links.proofs.Callers.{list_now, list_other, owners_stay}
pub use Rattle.slotmap_links.proofs.Changes.{covered, disjoint_still, list_cleared}
pub use Rattle.slotmap_links.proofs.Counts.{one_itself as number_itself, one_other as number_other, same as same_number, same_or_other as same_or_other_number, times_first as often_first}
pub use Rattle.slotmap_links.proofs.Counts.{times_gone as often_gone, times_joined as often_joined, times_without as often_without}
pub use Rattle.slotmap_links.proofs.Linking.{after_inside, before_inside, first_in, last_in}
pub use Rattle.slotmap_links.specs.Lists.{AreDisjoint, with_capacity, CoversMore, IsFree, IsIn, Lists, first_or, last_or as last_number}
pub use Rattle.slotmap_links.specs.Lists.{list_of, number_after, number_before, times as often, with_list, without as without_number}
pub use Rattle.slotmap_scene.specs.Above.{GoesUp, HasRoot, keys_up, roots_in}
pub use Rattle.slotmap_scene.specs.Below.{GoesDown, IsTop, WalksBelow, all_below, keys_down, keys_from}
pub use Rattle.slotmap_scene.specs.Climb.{ClimbsTo, IsTree, IsWithin, StepsTo, has_node, lacks_node, parent_in, parent_of, with_parent}
pub use Rattle.slotmap_scene.specs.Family.{AreListed, IsMoved, IsNewChild, IsNodeClone, IsScene, SiblingSide, as_placed, behind, beside_first, child, children_in, children_of, children_under, forgets}
pub use Rattle.slotmap_scene.specs.Family.{in_front, is_parent, placed, put_in_place, siblings_of, value_of, with_children_of, with_value, without_child}
pub use Rattle.slotmap_scene.specs.Kept.{AreCovered, HoldsMore, HoldsNodes, IsParent, family, forest, node_at, nodes_by, number_in_place, owner_of, parent_at, parent_index, put_on, roots_of}
pub use Rattle.slotmap_scene.specs.Levels.{AreWorlds, GoesByLevel, children_of_each, keys_of_pairs}
pub use Rattle.slotmap_scene.specs.Node.{Forest, Node, Nodes, key_and_value, memory, with_trees}
pub use Rattle.slotmap_scene.specs.Offset.{shifted}
pub use Rattle.slotmap_scene.specs.WorldValue.{CallableUp, CallsAt, FoldsUp, IsComposed, IsPathFrom, IsPathUp, IsWorld, IsWorldOf, Joins, world_along}
pub use Rattle.slotmap_scene.specs.declared.tree.Side.{Side}
pub use Rattle.slotmap_scene.specs.declared.tree.Side.TheVariants.{After, Before}
