-- What was written as JSON is read back: for callers, who write keys and lists of slots, and read them again.
use Rattle.std.proofs.Common.{◌≡◌, ◌<◌, ◌∷◌, ◌⊎◌, ◌^◌, ◌++◌}
use Rattle.slotmap_json.proofs.Common.{result_ok, AllByRecursion, IsContent, nat_tests, option_map, ◌∙◌, SlotRecord, JsonError, IsSlotJson, IsSlotsJson}
use Rattle.slotmap_json.proofs.Common.{key_from, Content, ReadsAs, Restores, as_array, items_of, key_json, read_key, slot_json, ReadsSlot, ReadsAll, IsReadAs, IsRefused, ReadsBack}
use Rattle.slotmap_json.proofs.Common.{AllZip, Key, IsKey, Writes, subst, arith, ℕ, List, [], Result, Ok, Err, Option, Some, None, Bool, inl, inr, refl, sym, ap, Shape, Memory, as_u32, ok_map}
use Rattle.serde_json.specs.Data.{Data, null, array}

fits_or_not : (n : ℕ) → (as_u32 n ≡ Some n) ⊎ (as_u32 n ≡ None)
fits_or_not n = grind arith

fits : (n : ℕ) → n < 2 ^ 32 → as_u32 n ≡ Some n
fits n less = grind (arith, nat_tests)

made_again : (k : Key) → IsKey k → key_from k.index k.version ≡ k
made_again k is = grind (arith, nat_tests, is.odd, is.one_null)

-- a key is read back from its JSON
pub key_read_back : (k : Key) → IsKey k → read_key (key_json k) ≡ Some k
key_read_back k is = rw (fits k.index is.index_fits, fits k.version is.version_fits) (ap Some (made_again k is))

-- the same of what `key_from_value` returns for what `key_to_value` returned
pub key_returned : {K : Type 0} (data_of : K → Key) (injective : (a b : K) → data_of a ≡ data_of b → a ≡ b) (key : K) (d : Data) (read : Result K JsonError)
    → IsKey (data_of key) → d ≡ key_json (data_of key) → option_map data_of (result_ok read) ≡ read_key d → read ≡ Ok key
key_returned data_of injective key d read is written reads =
    let same : option_map data_of (result_ok read) ≡ Some (data_of key) = reads ∙ ap read_key written ∙ key_read_back (data_of key) is in grind (arith, injective, same)

items_same : (ds es : List Data) → array (items_of ds) ≡ array (items_of es) → ds ≡ es
items_same [] [] h = refl
items_same (d ∷ ds) (e ∷ es) h = let rest = items_same ds es (cc) in cc
items_same [] (e ∷ es) h = absurd (cc)
items_same (d ∷ ds) [] h = absurd (cc)

module _ {V : Type 0} (gives : V → Data → Type 0) (reads : Data → Result V JsonError → Type 0) (back : ReadsBack gives reads) where
  slot_again : (value : Option V) (version : ℕ) (slot : SlotRecord V) (d : Data) → IsSlotJson gives (record { value = value; version = version }) d → ReadsSlot reads d (Ok slot)
      → slot ≡ record { value = value; version = version }
  slot_again None version slot d is read =
      let at : ReadsSlot reads (slot_json null version) (Ok slot) = subst (λ (x : Data). ReadsSlot reads x (Ok slot)) is read in
      elim (fits_or_not version) [
        | inl fits ↦ let same : Ok slot ≡ Ok (record { value = None; version = version }) = rw fits at at in cc
        | inr not ↦ let other : Ok slot ≡ Err Shape = rw not at at in absurd (cc)
      ]
  slot_again (Some v) version slot d is read =
      let at : ReadsSlot reads (slot_json is.0 version) (Ok slot) = subst (λ (x : Data). ReadsSlot reads x (Ok slot)) is.2 read in
      elim (fits_or_not version) [
        | inl fits ↦
            let value : (r : Result V JsonError) × reads is.0 r × (Ok slot ≡ ok_map (λ v. record { value = Some v; version = version }) r) = rw (fits, back.kept v is.0 is.1) at at in
            let same : Ok slot ≡ Ok (record { value = Some v; version = version }) =
            value.2 ∙ ap (ok_map (λ v. record { value = Some v; version = version })) (back.same v is.0 value.0 is.1 value.1) in
            cc
        | inr not ↦ let other : Ok slot ≡ Err Shape = rw not at at in absurd (cc)
      ]

  err_not_ok : (r : Result (SlotRecord V) JsonError) (e : JsonError) (slot : SlotRecord V) → r ≡ Err e → r ≡ Ok slot → ⊥
  err_not_ok r e slot err ok = absurd (cc)

  -- a slot's JSON isn't refused
  slot_accepted : (value : Option V) (version : ℕ) (d : Data) (e : JsonError) → version < 2 ^ 32
      → IsSlotJson gives (record { value = value; version = version }) d → ReadsSlot reads d (Err e) → ⊥
  slot_accepted None version d e less is read =
      let at : ReadsSlot reads (slot_json null version) (Err e) = subst (λ (x : Data). ReadsSlot reads x (Err e)) is read in
      err_not_ok (Err e) e (record { value = None; version = version }) refl (rw (fits version less) at at)
  slot_accepted (Some v) version d e less is read =
      let at : ReadsSlot reads (slot_json is.0 version) (Err e) = subst (λ (x : Data). ReadsSlot reads x (Err e)) is.2 read in
      let value : (r : Result V JsonError) × reads is.0 r × (Err e ≡ ok_map (λ v. record { value = Some v; version = version }) r) = rw (fits version less, back.kept v is.0 is.1) at at in
      err_not_ok (Err e) e (record { value = Some v; version = version }) refl (value.2 ∙ ap (ok_map (λ v. record { value = Some v; version = version })) (back.same v is.0 value.0 is.1 value.1))

  slots_again : (slots read : List (SlotRecord V)) (ds : List Data) → AllZip (IsSlotJson gives) slots ds → ReadsAll reads ds read → read ≡ slots
  slots_again [] [] [] are reading = refl
  slots_again (s ∷ slots) (r ∷ read) (d ∷ ds) are reading = let first = slot_again s.value s.version r d are.0 reading.0 in let rest = slots_again slots read ds are.1 reading.1 in cc
  slots_again _ _ _ are reading = absurd (grind arith)

  -- a list of slots that was written as JSON is read back
  pub slots_read_back : (slots read : List (SlotRecord V)) (d : Data) → IsSlotsJson gives slots d → IsReadAs reads d read → read ≡ slots
  slots_read_back slots read d written reading =
      slots_again slots read written.0 written.2 (subst (λ (ds : List Data). ReadsAll reads ds read) (items_same reading.0 written.0 (sym reading.1 ∙ written.1)) reading.2)

  none_refused : (slots : List (SlotRecord V)) (before after : List Data) (d : Data) (e : JsonError) → AllByRecursion (λ slot. slot.version < 2 ^ 32) slots
      → AllZip (IsSlotJson gives) slots (before ++ d ∷ after) → ReadsSlot reads d (Err e) → ⊥
  none_refused (s ∷ slots) [] after d e less are read = slot_accepted s.value s.version d e less.0 are.0 read
  none_refused (s ∷ slots) (b ∷ before) after d e less are read = none_refused slots before after d e less.1 are.1 read
  none_refused [] [] after d e less are read = absurd are
  none_refused [] (b ∷ before) after d e less are read = absurd are

  -- reading it fails only if memory runs out
  pub slots_not_refused : (slots : List (SlotRecord V)) (d : Data) (e : JsonError) → AllByRecursion (λ slot. slot.version < 2 ^ 32) slots
      → IsSlotsJson gives slots d → IsRefused reads d e → e ≡ Memory
  slots_not_refused slots d Memory less written refused = refl
  slots_not_refused slots d Shape less written (inl none) = absurd (let not : as_array (array (items_of written.0)) ≡ None = rw written.1 at none in cc)
  slots_not_refused slots d Shape less written (inr has) =
      absurd (none_refused slots has.0 has.2 has.1 Shape less (rw (items_same written.0 (has.0 ++ has.1 ∷ has.2) (sym written.1 ∙ has.3)) at written.2) has.5)

  -- a map that is made of them has the live keys and values of the map that was written; what was detached is gone
  pub map_read_back : {any reuses : Bool} (old new : Content V) (slots read : List (SlotRecord V)) (d : Data)
      → IsContent any old → Writes old slots → IsSlotsJson gives slots d → IsReadAs reads d read → ReadsAs reuses read new → Restores old new
  map_read_back {any} {reuses} old new slots read d valid writes written reading made =
      (subst (λ (list : List (SlotRecord V)). ReadsAs reuses list new) (slots_read_back slots read d written reading) made).restores any old valid writes
