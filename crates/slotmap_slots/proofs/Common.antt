-- What the answers of this crate cite of std, of the core and of this crate's lemmas, from one place. Declares nothing.
pub use Rattle.slotmap_core.proofs.Common.{slice_get_past, slice_get_within, into_iter_items, nil_from_length, next_consistent, clones_contents, equal_contents, AreRecordClones, used_places-sentinel}
pub use Rattle.slotmap_core.proofs.Common.{clone_copies, common_steps, length-append, IsConsistent, AllFitBelow, starts-stack, append_assoc, into_iter_len, last_version, writes_clones, sentinel_alone}
pub use Rattle.slotmap_core.proofs.Common.{option_map, ◌∙◌, arith, length_push, first_taken, even_where, list_limit, append-nil, err_not_ok, equal_writes, writes-stack, records_of, vec_capacity}
pub use Rattle.slotmap_core.proofs.Common.{ap, sym, length, is_some, reads_as, Accepts, odd_of, subst, [], Some, true, refl, ltb-true, key, nat_eq, false, eq-eqb, ne_eqb, take, vec_len}
pub use Rattle.slotmap_slots.proofs.ChangeLemmas.{filled_new, filled_first, reattached_now, removed_last, removed_other, detached_now}
pub use Rattle.slotmap_slots.proofs.FromListLemmas.{AreRead-retired, AreRead-vacant, free_indices-read, AreRead-first, AreRead-live, IsSound-read, AreRead, records-next, records-all}
pub use Rattle.slotmap_slots.proofs.SettledLemmas.{vacancies-push, settled_present, vacancies-written, with_payload-settled, settled_reuses, settled_places, aside_positive, grown, settled_positive}
pub use Rattle.slotmap_slots.proofs.SettledLemmas.{settled_valid, settled_room, settled_fits, settled_value, settled_spare, settled_aside, settled_used}
pub use Rattle.slotmap_slots.proofs.SlotGrowth.{none_free, top_read, top_next, top_version, offer-new, offer-top, top, detached-past, detached-stale, detached-at, IsSound-sentinel}
pub use Rattle.slotmap_slots.proofs.SlotLemmas.{contains-version, contains-past, valid, FitsEmpty-free, head_within, content-rewritten, head_fits, stacked_free}
pub use Rattle.slotmap_slots.specs.Slot.{version_at, vacancies, Retired, empty, full, Free, version_before, places_of}
