-- What the proofs of this crate cite of std, of the crates below and of this crate's definitions, from one place. Declares nothing.
pub use Rattle.std.proofs.Common.{◌∙◌, Some, Option, is_some, length, get_or, option_map, append-nil, append_assoc, nat_eq, MatchOption, map as list_map, OnSome, IfSome, ⊎_elim, length-append}
pub use Rattle.std.proofs.Common.{None, List, [], refl, ap, arith, false, ℕ, suc, true, cond, take, sym, Bool, IfNone, subst, inl, inr, zero, drop, not}
pub use Rattle.std.proofs.Math.Nat.{eq-zero-or-pos}
pub use Rattle.std.proofs.lemmas.Bool.Decides.{nat_tests}
pub use Rattle.std.proofs.lemmas.List.{take_more, take_all, take-append-le, length-replicate, length-map, map-append, get_or-map, drop-append-le}
pub use Rattle.std.proofs.lemmas.List.Sums.{fold-append, sum_by-take-drop}
pub use Rattle.std.proofs.lemmas.Option.{same_Some}
pub use Rattle.std.proofs.lemmas.List.Elements.{All-cons, All-nil, All-weaker}
pub use Rattle.std.specs.List.{All, cons_option, find, fold, filter, filter_map, list_any}
pub use Rattle.std.specs.Option.{option_and_then}
pub use Rattle.slotmap.proofs.Callers.{same_or_other, get-insert_here, get-insert_other, spent_inserts, same_lent, leaves_by_removal, leaves_in_turn, inserted_fresh, live-insert_still, get-bind_other}
pub use Rattle.slotmap.proofs.Callers.{spent_keeps, spent_leaves, clone_copies, beside_empty, removed_spent, spent_removes, remove_spent, spent_remove, get-put_live, get-put_other, get-bind_here}
pub use Rattle.slotmap.proofs.Callers.{some_entry, exact_keys, keys_total, left_spent, len_removed, none_found, of_some, leaves_none, keys, clone_live, secondary, tied}
pub use Rattle.slotmap.specs.Words.{IsLive, Content, key_cmp, with_value, Inserts, Leaves, IsContent, Removes, Pairs, IsBeside, ClonesEqual, IsCloneBy, IsCloneOf, contains_key, IsSpent, KeepsSpent}
pub use Rattle.slotmap.specs.Words.{Key, get}
pub use Rattle.slotmap_bounded.proofs.Indices.{indices_inserted, indices_still, first_index, first_key, later_indices, key_at_live, keys_same, keys_without, times_key, before_back, behind_front}
pub use Rattle.slotmap_bounded.proofs.Indices.{key_is, same_at, no_key, some_is, back_has, back_key, front_has, front_key}
pub use Rattle.slotmap_bounded.proofs.Alone.{used-written}
pub use Rattle.slotmap_bounded.specs.Bounded.{bound}
pub use Rattle.slotmap_bounded.specs.Indices.{HaveIndices, AreIndices, key_at, keys_at}
pub use Rattle.slotmap_bounded.proofs.Counts.{one_itself, times_first, without_none, times_joined, times_pushed, times_there, here_or_behind, none_behind, no_more_than, filter_less, behind_split}
pub use Rattle.slotmap_bounded.proofs.Counts.{one_other, is_itself, is_other, filter_all, as_many}
pub use Rattle.slotmap_bounded.proofs.Linking.{in_midst, split_at}
pub use Rattle.slotmap_bounded.proofs.MapKeys.{key_live, keys_once, key_there, entries_there}
pub use Rattle.slotmap_bounded.specs.KeyLists.{same, times, without, is_key}
pub use Rattle.slotmap_links.proofs.Changes.{disjoint_still, list_cleared, pushed_here, pushed_still, pushed_was, covered}
pub use Rattle.slotmap_links.proofs.Linking.{after_inside, cut_at, cons_not_nil}
pub use Rattle.slotmap_links.specs.Lists.{first_or, list_of, Lists, with_capacity, AreDisjoint, times as often, CoversMore, IsFree, with_list, number_after, without as without_number, IsIn}
pub use Rattle.slotmap_graph.specs.Parts.{SeenEdge, ends_at, ListsEdges, edges_at, IsJoined, key_after, with_edge, clones_edge, with_edge_in, PutsAlone, SameEdges, touches, PutsBehind, avoids, ByNode}
pub use Rattle.slotmap_graph.specs.Parts.{Edges, from, Seen, to, value}
pub use Rattle.slotmap_graph.specs.Search.{GoesOn, HasEdge, IsBreadthFirst, ends_along, entries_along, goes_to, marked, Finds, LeadsBy, Leads, AllLed, HasNext, AreSeen}
pub use Rattle.slotmap_graph.specs.Threads.{IsThreaded, IsGraph, by_node, far_end}
pub use Rattle.slotmap_graph.specs.TopologicalOrder.{Counting, ComesFromLeft, Sorting, edges_out, ClosesCycle, IsLeft, GoesForward, HasCycle, passed_of}
