-- What the answers of this crate cite of std, of the core and of this crate's lemmas, from one place. Declares nothing.
pub use Rattle.slotmap_core.proofs.Common.{map as map_list, slice_get_within, contents_by_place, option_copied_mut, common_steps, side_list_limit, WritesThrough, key_from-odd, vec_capacity}
pub use Rattle.slotmap_core.proofs.Common.{contains_key, AllPut, length_push, Taking-next, Taking-here, Taking-end, Exchanging, ◌∙◌, values_of, Accepts, OwnedIter, value_at, is_some, key_from}
pub use Rattle.slotmap_core.proofs.Common.{MayCome, vec_len, bind_twice, lent_is, AreEqual, IsKey, refl, ap, subst, arith, sym, length, None, Key, nat_eq, keyed, ℕ, List, Some, in_own, true}
pub use Rattle.slotmap_sparse.proofs.EntriesLemmas.{IsSound-added, IsSound-empty, IsSound-through, content-through, IsSound-kept, content_kept, IsSound-same, IsSound-over, content_over, IsSound-taken}
pub use Rattle.slotmap_sparse.proofs.EntriesLemmas.{found_pair, pairs_put, same_len, well_formed, stands_at, found_own, found_none, on_ok, same_pairs, more_room, pairs_taken, of_ok}
pub use Rattle.slotmap_sparse.proofs.EntryLemmas.{vacant_nothing, in_place_outdated, leaves_empty, IsWritten-own}
pub use Rattle.slotmap_sparse.proofs.FromListLemmas.{Read, Read-absent, Read-slot, Counts, Counts-start, Counts-less, Counts-more, Counts-end}
pub use Rattle.slotmap_sparse.proofs.IterLemmas.{of_keys, listing, valid_from, listed_key, listed_none}
pub use Rattle.slotmap_sparse.proofs.WrittenLemmas.{Copies-start, Copies-push, writes_clones, contents_clones, writes_equal, contents_equal, Copies}
pub use Rattle.slotmap_sparse.specs.Content.{IsSparseContent}
pub use Rattle.slotmap_sparse.specs.Entries.{pairs_of, content_of, IsSound}
