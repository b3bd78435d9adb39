-- The text of a list of slots, and of the reasons why a list isn't read.
use Rattle.std.specs.Prelude.{◌≡◌, ◌⊎◌, ℤ, ℕ, List, ◌++◌, codes, map, Option, Some, None}
use Rattle.std.specs.Fmt.{decimal, signed_decimal}
use Rattle.std.specs.List.{join_with_byte}
use Rattle.slotmap_core.specs.declared.serial.SlotRecord.{SlotRecord}
use Rattle.slotmap_core.specs.declared.errors.JsonError.TheVariants as json
use Rattle.slotmap_core.specs.declared.errors.SlotsError.TheVariants as slots
use Rattle.slotmap_script.specs.ReplyText.{line}
use Rattle.slotmap_script.specs.declared.list.LoadError.{LoadError}
use Rattle.slotmap_script.specs.declared.list.LoadError.TheVariants as load

-- a value as JSON
abbrev pub value_text : Option ℤ → List ℕ
value_text (Some value) = signed_decimal value
value_text None = codes "null"

-- a slot as compact JSON
abbrev pub slot_text : SlotRecord ℤ → List ℕ
slot_text slot = codes "{\"value\":" ++ value_text slot.value ++ codes ",\"version\":" ++ decimal slot.version ++ codes "}"

-- the line of a list of slots: compact JSON, with a comma between each two slots
abbrev pub slots_text : List (SlotRecord ℤ) → List ℕ
slots_text slots = line (codes "[" ++ join_with_byte 44 (map slot_text slots) ++ codes "]")

-- the line of the reason why a list isn't read
abbrev pub refusal_text : LoadError → List ℕ
refusal_text (load.Json json.Shape) = line (codes "shape")
refusal_text (load.Json json.Memory) = line (codes "memory")
refusal_text (load.Slots slots.TooMany) = line (codes "too many")
refusal_text (load.Slots slots.FirstNotEmpty) = line (codes "first not empty")
refusal_text (load.Slots (slots.Inconsistent position)) = line (codes "inconsistent " ++ decimal position)
refusal_text (load.Slots slots.Memory) = line (codes "memory")

-- this text tells why a list isn't read, or that there is no memory for that line
abbrev pub TellsRefusal : LoadError → List ℕ → Type 0
TellsRefusal error text = (text ≡ refusal_text error) ⊎ (text ≡ line (codes "memory"))
