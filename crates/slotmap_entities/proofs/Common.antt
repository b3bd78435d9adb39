-- What the answers of this crate cite of std, of the maps, and of its own lemmas and definitions, from one place. Declares nothing.
pub use Rattle.std.proofs.Common.{ap, arith, false, is_some, length, None, Option, refl, rules, Some, sym, true, ◌∙◌}
pub use Rattle.slotmap.proofs.Callers.{beside_bound, beside_taken, clone_live, get-bind_here, get-bind_other, get-keyed, get-remove_other, leaves_by_removal, leaves_none, left_spent}
pub use Rattle.slotmap.proofs.Callers.{remove_spent-dense, removed_gone, retained_none, same_lent, spent_insert-dense, spent_leaves, spent_remove-dense}
pub use Rattle.slotmap.specs.Words.{contains_key, get, Key, key_cmp, keyed, Pairs, with_value_of}
pub use Rattle.slotmap_entities.proofs.LiveOnly.{own_beside, removed_live, table_live}
pub use Rattle.slotmap_entities.proofs.Spawned.{inserted_live, kept_still, offered_index, spawned_bare, spawned_fresh, spawned_index, spawned_spent, spawned_still, spawned_unspent, when_ok}
pub use Rattle.slotmap_entities.proofs.TableCount.{none_more, one_more}
pub use Rattle.slotmap_entities.specs.World.{both_found_by, found_by, found_without, optional_found_by, three_found_by, World}
