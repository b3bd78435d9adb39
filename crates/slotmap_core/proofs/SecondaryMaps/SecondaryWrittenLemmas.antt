-- A secondary map holds what a list of slots says, if at each index it holds what the slot there has.
-- For the crates of maps.
use Rattle.std.proofs.lemmas.Option.{slice_get_past}
use Rattle.std.proofs.Common.{◌≡◌, ◌%◌, ◌<◌, arith, ℕ, List, length, slice_get, Option, Some, true, is_some}
use Rattle.slotmap_core.specs.Words.{Pairs, IsSecondary, value_at, keyed, record_of_pair, slot_pair, start_live}
use Rattle.slotmap_core.specs.declared.serial.SlotRecord.{SlotRecord}
use Rattle.slotmap_core.proofs.General.Maps.{none_of, false_of, some_is}
use Rattle.slotmap_core.proofs.General.KeyLemmas.{keys_total, exact_keys}
use Rattle.slotmap_core.proofs.SecondaryMaps.KeyedLemmas.{get-keyed}
use Rattle.slotmap_core.proofs.FromList.AtKeysLemmas.{live_in, in_contents}
use Rattle.std.specs.FinMap as map

module _ {V : Type 0} where
  same_options : (o p : Option V) → ((v : V) → o ≡ Some v → p ≡ Some v) → ((v : V) → p ≡ Some v → o ≡ Some v) → o ≡ p
  same_options o p f g = grind arith

  -- the slot in which a version has a value
  slot_with : (version : ℕ) (v : V) (o : Option (SlotRecord V)) → value_at version (slot_pair o) ≡ Some v
      → (slot : SlotRecord V) × (o ≡ Some slot) × (slot.version ≡ version) × (slot.value ≡ Some v)
  slot_with version v slot h = grind arith

  module _ (slots : List (SlotRecord V)) (m : Pairs V) (by_place : (i : ℕ) → map.get m i ≡ slot_pair (slice_get slots i))
      (odd : (i : ℕ) (slot : SlotRecord V) → slice_get slots i ≡ Some slot → is_some slot.value ≡ true → slot.version % 2 ≡ 1) where
    pub contents_by_place : keyed m ≡ start_live slots
    contents_by_place = map.same_map keys_total exact_keys _ _ (λ k.
        grind (arith, same_options (map.get (keyed m) k), get-keyed m k, by_place k.index, slot_with k.version, in_contents slots k.index, live_in slots k, odd k.index))

  -- a list in which each index is written, up to the last one of the map
  module _ (slots : List (SlotRecord V)) (m : Pairs V) (valid : IsSecondary m) (within : (i : ℕ) → map.contains_key m i ≡ true → i < length slots)
      (each : (i : ℕ) → i < length slots → slice_get slots i ≡ Some (record_of_pair (map.get m i))) where
    odd_written : (i : ℕ) (slot : SlotRecord V) → slice_get slots i ≡ Some slot → is_some slot.value ≡ true → slot.version % 2 ≡ 1
    odd_written i slot at valued = grind (arith, some_is, none_of, false_of, slice_get_past)

    pub contents_written : start_live slots ≡ keyed m
    contents_written = grind (arith, contents_by_place, odd_written, none_of, false_of, slice_get_past)
