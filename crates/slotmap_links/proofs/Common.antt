-- What the answers of this crate cite of std and of its own lemmas, from one place. Declares nothing.
pub use Rattle.std.proofs.Common.{arith, ◌∙◌, ap, [], length, length-append, sym, ℕ, Some}
pub use Rattle.slotmap_links.proofs.KeptLists.{kept_cleared, seen_cleared, resized_members, resized_owners, kept_disjoint, kept_none}
pub use Rattle.slotmap_links.proofs.SeenLists.{number_next, number_prev, before_place, before_put, member_below, behind_place, behind_put, front_place, back_place, list_here, seen_written}
pub use Rattle.slotmap_links.proofs.Segments.{segment_begins, back_below, back_rest, back_steps, segment_long, tail_below, tail_rest, tail_steps, tail_is, front_below, front_rest, front_steps}
pub use Rattle.slotmap_links.proofs.Written.{prev_below, next_below, put_fits, put_written, taken_prev_below, taken_next_below, take_fits, take_written}
pub use Rattle.slotmap_links.specs.Lists.{with_list, without}
