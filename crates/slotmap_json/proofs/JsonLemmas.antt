-- Lists that agree with one another for one more element, and what one element of an array is read as.
use Rattle.std.proofs.Common.{◌≡◌, ◌∷◌, ◌+◌, ◌<◌, ◌++◌}
use Rattle.slotmap_json.proofs.Common.{◌∙◌, map-append, take-append-drop, all_zipped_more, SlotRecord, items_view, version_member, value_member, IsSlotJson, HasElements}
use Rattle.slotmap_json.proofs.Common.{AllZip, take_more, map_more, map_push, drop-cons, add-one, as_array, items_of, slot_json, ReadsSlot, ReadsAll, IsRefused, JsonError}
use Rattle.slotmap_json.proofs.Common.{Option, Some, sym, ap, arith, ℕ, suc, List, [], length, get_or, take, drop, map, Result, Ok, Err, IsOk, IfOk, inr, view, ok_map, Shape, Memory}
use Rattle.slotmap_core.specs.declared.errors.OutOfMemory.{OutOfMemory}
use Rattle.serde_json.specs.Data.{Data, array, Items}
use Rattle.serde_json.specs.declared.value.Value.{Value}

-- one more element of xs agrees with one more value
pub goes_further : {A : Type 0} (R : A → Data → Type 0) (xs : List A) (before after : List Value) (i : ℕ) (x : A) (y : Value) → i < length xs
    → x ≡ get_or xs i x → AllZip R (take i xs) (map view before) → R x (view y)
    → after ≡ before ++ y ∷ [] → AllZip R (take (i + 1) xs) (map view after)
goes_further {A} R xs before after i x y within read so_far here pushed =
    rw (pushed, map_push, take_more xs i x within, ← read) (all_zipped_more R (take i xs) (map view before) x (view y) so_far here)

-- the JSON of a slot that has a value
pub slot_json_given : {V : Type 0} (gives : V → Data → Type 0) (slot : SlotRecord V) (v : V) (x : Data) (r : Result Value OutOfMemory)
    → slot.value ≡ Some v → gives v x → IfOk r (λ y. view y ≡ slot_json x slot.version) → IfOk r (λ y. IsSlotJson gives slot (view y))
slot_json_given gives slot v x r is given h = grind arith

-- the result of reading an element that has a value
pub reads_value : {V : Type 0} (reads : Data → Result V JsonError → Type 0) (d x : Data) (version : ℕ) (read : Result V JsonError)
    (r : Result (SlotRecord V) JsonError) (u : Option ℕ) → u ≡ version_member d → u ≡ Some version → value_member d ≡ Some x → reads x read
    → r ≡ ok_map (λ v. record { value = Some v; version = version }) read → ReadsSlot reads d r
reads_value reads d x version read r u looked versioned valued reading is = rw (sym looked ∙ versioned, valued) (read, reading, is)

is_array : (d : Data) (items : Items) → Some items ≡ as_array d → d ≡ array items
is_array d items h = grind arith

parted : (vs : List Value) (i : ℕ) (x : Value) → i < length vs → x ≡ get_or vs i x → map view vs ≡ map view (take i vs) ++ view x ∷ map view (drop (i + 1) vs)
parted vs i x within read =
    let rest : drop i vs ≡ x ∷ drop (i + 1) vs = rw (add-one i) (drop-cons vs i x within ∙ ap (λ z. z ∷ drop (suc i) vs) (sym read)) in
    ap (map view) (sym (take-append-drop i vs) ∙ ap (λ zs. take i vs ++ zs) rest) ∙ map-append view (take i vs) (x ∷ drop (i + 1) vs)

-- memory ran out, so some was needed
pub some_asked : {A E : Type 0} (n : ℕ) (r : Result A E) (e : E) → (n ≡ 0 → IsOk r) → r ≡ Err e → 0 < n
some_asked n r e succeeds is = grind arith

-- an array with one element or more has elements
pub has_elements : (d : Data) (vs : List Value) → Some (items_view vs) ≡ as_array d → 0 < length vs → HasElements d
has_elements d [] listed some = absurd (omega arith)
has_elements d (v ∷ vs) listed some = (view v, map view vs, is_array d (items_view (v ∷ vs)) listed)

module _ {V : Type 0} (reads : Data → Result V JsonError → Type 0) where
  -- one more element is read
  pub reads_further : (vs : List Value) (slots after : List (SlotRecord V)) (i : ℕ) (x : Value) (slot : SlotRecord V) → i < length vs
      → x ≡ get_or vs i x → ReadsAll reads (map view (take i vs)) slots → ReadsSlot reads (view x) (Ok slot)
      → after ≡ slots ++ slot ∷ [] → ReadsAll reads (map view (take (i + 1) vs)) after
  reads_further vs slots after i x slot within read so_far here pushed =
      rw (pushed, map_more view vs i x within, ← read) (all_zipped_more (λ d s. ReadsSlot reads d (Ok s)) (map view (take i vs)) slots (view x) slot so_far here)

  -- an element fails to be read
  pub refuses_at : (d : Data) (vs : List Value) (slots : List (SlotRecord V)) (i : ℕ) (x : Value) (e : JsonError) → Some (items_view vs) ≡ as_array d
      → i < length vs → x ≡ get_or vs i x → ReadsAll reads (map view (take i vs)) slots
      → ReadsSlot reads (view x) (Err e) → IsRefused reads d e
  refuses_at d vs slots i x Shape listed within read so_far here =
      inr (map view (take i vs), view x, map view (drop (i + 1) vs), is_array d (items_view vs) listed ∙ ap (λ ds. array (items_of ds)) (parted vs i x within read), (slots, so_far), here)
  refuses_at d vs slots i x Memory listed within read so_far here = has_elements d vs listed (omega arith)
