-- The JSON of keys and of lists of slots.
use Rattle.std.specs.Prelude.{◌≡◌, ◌^◌, ◌⊎◌, ◌∷◌, ◌++◌, if◌then◌else◌, ℕ, List, codes, Option, Some, None, Result, Ok, Err, MatchOption, option_map, nat_lt}
use Rattle.slotmap_core.specs.Words.{option_and_then, Shared, FnReturnsAt, AllZip, Bor, Key, key_from}
use Rattle.slotmap_core.specs.declared.serial.SlotRecord.{SlotRecord}
use Rattle.serde_json.specs.Data.{Data, null, number, unsigned, array, object, member, no_members}
use Rattle.serde_json.specs.Find.{get, as_number, as_u64, as_array}
use Rattle.serde_json.specs.View.{view, items_of}
use Rattle.serde_json.specs.declared.value.Value.{Value}
use Rattle.slotmap_core.specs.declared.errors.JsonError.{JsonError}
use Rattle.slotmap_core.specs.declared.errors.JsonError.TheVariants.{Shape, Memory}
use Rattle.slotmap_core.specs.declared.errors.OutOfMemory.{OutOfMemory}

-- the JSON of a key, {"idx":I,"version":N}
abbrev pub key_json : Key → Data
key_json k =
    object (member (codes "idx") (number (unsigned k.index))
    (member (codes "version") (number (unsigned k.version)) no_members))

-- the JSON of a slot, {"value":X,"version":N}
abbrev pub slot_json : Data → ℕ → Data
slot_json value version =
    object (member (codes "value") value
    (member (codes "version") (number (unsigned version)) no_members))

-- a number, if it fits 32 bits
abbrev pub as_u32 : ℕ → Option ℕ
as_u32 n = if nat_lt n (2 ^ 32) then Some n else None

-- the whole number from 0 to 2^32 - 1 that an object has under this name; other members are ignored
abbrev pub u32_at : List ℕ → Data → Option ℕ
u32_at name d = option_and_then as_u32 (option_and_then as_u64 (option_and_then as_number (get name d)))

-- JSON, unless it is null
abbrev pub not_null : Data → Option Data
not_null null = None
not_null d = Some d

-- what an object has under the name "value", if there is such a member and it isn't null
abbrev pub value_member : Data → Option Data
value_member d = option_and_then not_null (get (codes "value") d)

-- the version of a slot
abbrev pub version_member : Data → Option ℕ
version_member d = u32_at (codes "version") d

-- the key that JSON is read as: both numbers must be there, and the version is made odd
abbrev pub read_key : Data → Option Key
read_key d = option_and_then (λ index. option_map (key_from index) (version_member d)) (u32_at (codes "idx") d)

-- the result, with f of its value
abbrev pub ok_map : {A B : Type 0} → (A → B) → Result A JsonError → Result B JsonError
ok_map f (Ok a) = Ok (f a)
ok_map f (Err e) = Err e

-- the JSON is an array, and not the empty one
abbrev pub HasElements : Data → Type 0
HasElements d = (first : Data) × (rest : List Data) × (d ≡ array (items_of (first ∷ rest)))

module _ {V : Type 0} where
  -- the closure f may return this JSON for a value
  abbrev pub GivesJson : {F : Type 0} → Shared F (Bor V × Unit {0}) (Result Value OutOfMemory) → F → V → Data → Type 0
  GivesJson calls f v d = (x : Value) × FnReturnsAt calls f v (Ok x) × (view x ≡ d)

  -- the closure g may return this result for this JSON
  abbrev pub ReadsJson : {G : Type 0} → Shared G (Bor Value × Unit {0}) (Result V JsonError) → G → Data → Result V JsonError → Type 0
  ReadsJson calls g d r = (x : Value) × (view x ≡ d) × FnReturnsAt calls g x r

  -- the JSON of a slot: its value's JSON, or null if it has none, and its version
  abbrev pub IsSlotJson : (V → Data → Type 0) → SlotRecord V → Data → Type 0
  IsSlotJson gives slot d =
      MatchOption slot.value (d ≡ slot_json null slot.version)
      (λ v. (x : Data) × gives v x × (d ≡ slot_json x slot.version))

  -- the JSON of a list of slots: an array with the JSON of each, in order
  abbrev pub IsSlotsJson : (V → Data → Type 0) → List (SlotRecord V) → Data → Type 0
  IsSlotsJson gives slots d = (ds : List Data) × (d ≡ array (items_of ds)) × AllZip (IsSlotJson gives) slots ds

  -- the possible results of reading one element: its version is read first, and its value after that
  abbrev pub ReadsSlot : (Data → Result V JsonError → Type 0) → Data → Result (SlotRecord V) JsonError → Type 0
  ReadsSlot reads d r =
      MatchOption (version_member d) (r ≡ Err Shape)
      (λ version. MatchOption (value_member d) (r ≡ Ok (record { value = None; version = version }))
      (λ x. (read : Result V JsonError) × reads x read × (r ≡ ok_map (λ v. record { value = Some v; version = version }) read)))

  -- each element is read as the slot at its position
  abbrev pub ReadsAll : (Data → Result V JsonError → Type 0) → List Data → List (SlotRecord V) → Type 0
  ReadsAll reads ds slots = AllZip (λ d slot. ReadsSlot reads d (Ok slot)) ds slots

  -- the JSON is an array, and its elements are read as these slots
  abbrev pub IsReadAs : (Data → Result V JsonError → Type 0) → Data → List (SlotRecord V) → Type 0
  IsReadAs reads d slots = (ds : List Data) × (d ≡ array (items_of ds)) × ReadsAll reads ds slots

  -- the JSON is an array, one of its elements fails to be read, and those before it are read
  abbrev pub HasRefusal : (Data → Result V JsonError → Type 0) → Data → JsonError → Type 0
  HasRefusal reads d e =
      (before : List Data) × (refused : Data) × (after : List Data) × (d ≡ array (items_of (before ++ refused ∷ after)))
      × ((slots : List (SlotRecord V)) × ReadsAll reads before slots) × ReadsSlot reads refused (Err e)

  -- why JSON isn't read as a list of slots; `Memory` only if there are elements
  abbrev pub IsRefused : (Data → Result V JsonError → Type 0) → Data → JsonError → Type 0
  IsRefused reads d Shape = (as_array d ≡ None) ⊎ HasRefusal reads d Shape
  IsRefused reads d Memory = HasElements d

  -- what g may read of the JSON that f may give for a value is that value; and f gives null for none
  pub record ReadsBack (gives : V → Data → Type 0) (reads : Data → Result V JsonError → Type 0) : Type 0 where
    pub kept : (v : V) (x : Data) → gives v x → not_null x ≡ Some x
    pub same : (v : V) (x : Data) (read : Result V JsonError) → gives v x → reads x read → read ≡ Ok v
