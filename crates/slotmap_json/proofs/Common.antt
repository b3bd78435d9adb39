-- What the proofs of this crate cite of std, of the crates below and of this crate's definitions, from one place. Declares nothing.
pub use Rattle.slotmap_core.proofs.Common.{◌∙◌, take_more, map-append, take-append-drop, all_zipped_more, drop-cons, result_ok, AllByRecursion, IsContent, nat_tests, option_map, common_steps}
pub use Rattle.slotmap_core.proofs.Common.{AllZip, Option, Some, arith, map_more, map_push, add-one, length, get_or, Result, IsKey, key_from, Content, ReadsAs, Writes, Restores, subst, says_at, rules}
pub use Rattle.slotmap_core.proofs.Common.{sym, ap, ℕ, suc, List, [], take, drop, map, Ok, Err, IsOk, IfOk, inr, Key, None, Bool, inl, refl}
pub use Rattle.slotmap_core.specs.declared.errors.JsonError.{JsonError}
pub use Rattle.slotmap_core.specs.declared.errors.JsonError.TheVariants.{Shape, Memory}
pub use Rattle.slotmap_core.specs.declared.serial.SlotRecord.{SlotRecord}
pub use Rattle.serde_json.specs.Find.{as_array}
pub use Rattle.serde_json.specs.View.{view, items_of, items_view}
pub use Rattle.slotmap_json.specs.Json.{version_member, value_member, slot_json, IsSlotJson, ReadsSlot, ReadsAll, HasElements, IsRefused, key_json, IsSlotsJson, ReadsBack, ReadsJson, GivesJson}
pub use Rattle.slotmap_json.specs.Json.{ok_map, read_key, as_u32, IsReadAs}
