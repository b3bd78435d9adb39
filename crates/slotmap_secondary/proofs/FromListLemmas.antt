-- What a map holds that is read from a list of slots.
use Rattle.std.specs.FinMap as map
use Rattle.std.proofs.Common.{◌≡◌, ◌+◌, ◌∷◌, ◌++◌, map as list_map, refl, ap, ◌∙◌, arith, nat_cmp, ℕ, List, [], length, slice_get, Option, None, Some, option_map, sym}
use Rattle.slotmap_core.proofs.Common.{AllFitBelow, slice_get_within, slice_get_past, slice_get-map, nat_cmp_total, exact_unsigned, len_inserted, side_list_limit, gather-push_put, contents_by_place}
use Rattle.slotmap_core.proofs.Common.{keyed, start_live, slot_pair, Accepts, length-map, map_push, mapped}
use Rattle.slotmap_core.specs.declared.serial.SlotRecord.{SlotRecord}
use Rattle.slotmap_secondary.specs.Slots.{Slot, Vacant, Occupied, pair_at, entry_in, pairs_of, IsSlotAt, IsSound}
use Rattle.slotmap_secondary.proofs.SlotLemmas.{laws, entry_fits, get-pairs, pairs-push}

pub pairs-none : (V : Type 0) → map.len (pairs_of {V = V} []) ≡ 0
unfolding pairs_of
pairs-none V = map.len-empty nat_cmp (ℕ × V)

module _ {V : Type 0} where
  -- the slot that a record is read as
  abbrev slot_from : ℕ → Option V → Slot V
  slot_from version None = Vacant 0
  slot_from version (Some value) = Occupied version value

  abbrev pub read : List (SlotRecord V) → List (Slot V)
  read list = list_map (λ r. slot_from r.version r.value) list

  pub read-push : (slots : List (Slot V)) (before : List (SlotRecord V)) (r : SlotRecord V) (o : Option V) → slots ≡ read before → r.value ≡ o
      → slots ++ slot_from r.version o ∷ [] ≡ read (before ++ r ∷ [])
  read-push slots before r o made is = grind (arith, map_push)

  pub pairs-push_key : (slots : List (Slot V)) (version : ℕ) (value : V) → pairs_of (slots ++ Occupied version value ∷ []) ≡ map.insert (pairs_of slots) (length slots) (version, value)
  unfolding pairs_of
  pairs-push_key slots version value = gather-push_put laws (λ j. j) entry_in entry_fits slots (Occupied version value) (length slots, (version, value)) refl

  pub count_key : (slots : List (Slot V)) (version : ℕ) (value : V) → map.len (pairs_of (slots ++ Occupied version value ∷ [])) ≡ map.len (pairs_of slots) + 1
  count_key slots version value = grind (arith, pairs-push_key, len_inserted, nat_cmp_total, exact_unsigned, get-pairs, slice_get_past)

  pub count_empty : (slots : List (Slot V)) → map.len (pairs_of (slots ++ Vacant 0 ∷ [])) ≡ map.len (pairs_of slots)
  count_empty slots = ap map.len (pairs-push slots)

  module _ (list : List (SlotRecord V)) (accepted : Accepts list side_list_limit) (fits : AllFitBelow list (length list)) where
    -- what is read at an index is the record there
    record_at : (i : ℕ) (s : Slot V) → slice_get (read list) i ≡ Some s → (r : SlotRecord V) × (slice_get list i ≡ Some r) × (slot_from r.version r.value ≡ s)
    record_at i s at = mapped (λ r. slot_from r.version r.value) (slice_get list i) s (sym (slice_get-map (λ r. slot_from r.version r.value) list i) ∙ at)

    slot_at : (i : ℕ) (s : Slot V) → slice_get (read list) i ≡ Some s → IsSlotAt i s
    slot_at i s at = grind (arith, record_at i s at, slice_get_within)

    pub IsSound-read : (len : ℕ) → len ≡ map.len (pairs_of (read list)) → IsSound (read list) len
    IsSound-read len counts = grind (arith, length-map, slice_get_within, slot_at)

    pub read-contents : keyed (pairs_of (read list)) ≡ start_live list
    read-contents = contents_by_place list (pairs_of (read list))
        (λ i. get-pairs (read list) i ∙ ap pair_at (slice_get-map (λ r. slot_from r.version r.value) list i) ∙ by (slice_get list i))
        (λ i slot at valued. (accepted.consistent i slot (slice_get_within list i slot at) at).0 valued)
      where
        by : (o : Option (SlotRecord V)) → pair_at (option_map (λ r. slot_from r.version r.value) o) ≡ slot_pair o
        by o = grind arith
