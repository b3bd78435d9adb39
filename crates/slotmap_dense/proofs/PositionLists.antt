-- A dense map written as a list of slots: the list of its positions, with each position replaced by the value there.
use Rattle.std.proofs.Common.{◌≡◌, ◌+◌, ◌<◌, map as list_map, ℕ, true, List, length, slice_get, Option, None, Some, IfSome, option_map, refl, ap, ◌∙◌, arith}
use Rattle.slotmap_core.proofs.Common.{Key, Content, Writes, empty_slot, length-map, slice_get-map, slice_get_within, in_contents, odd_of, written-accepted, written-contents, key}
use Rattle.slotmap_core.specs.declared.serial.SlotRecord.{SlotRecord}
use Rattle.slotmap_dense.specs.Packed.{IsSound, dense_of, with_packed_value}
use Rattle.slotmap_dense.proofs.PackedLemmas.{get-packed, position_cases, value_there}
use Rattle.slotmap_dense.proofs.WellFormed.{same_keys}

module _ {V : Type 0} (slots : Content ℕ) (keys : List Key) (values : List V) (sound : IsSound slots keys values) (list : List (SlotRecord ℕ)) (writes : Writes slots list) where
  -- a position in the list is that of a value
  pub position_within : (i : ℕ) (r : SlotRecord ℕ) → slice_get list i ≡ Some r → IfSome r.value (λ p. p < length values)
  position_within i r found = by r.value refl
    where
      by : (o : Option ℕ) → r.value ≡ o → IfSome o (λ p. p < length values)
      by None is = tt
      by (Some p) is =
          let at = (written-accepted true slots sound.well list writes (length list + 1) (omega arith)).consistent i r (slice_get_within list i r found) found in
          let named = in_contents list i r p found (odd_of r at p is) is in
          let there = value_there slots.live keys sound.packed values sound.same_length (key i r.version) p (rw (written-contents true slots sound.well list writes) at named) in
          slice_get_within values p there.0 there.1

  at_index : (i : ℕ) (r : SlotRecord ℕ) → slice_get list i ≡ Some r → slice_get (list_map (with_packed_value values) list) i ≡ Some (with_packed_value values r)
  at_index i r found = slice_get-map (with_packed_value values) list i ∙ ap (option_map (with_packed_value values)) found

  -- the list with the values is the list that the map writes
  pub writes-filled : (spare : ℕ) → Writes (dense_of slots keys values spare).content (list_map (with_packed_value values) list)
  writes-filled spare =
      let same = same_keys slots keys values sound in
      record {
        all = omega (arith, length-map list (with_packed_value values), writes.all, same.all);
        first = at_index 0 (empty_slot 0) writes.first;
        live = λ k v got. grind (
          arith,
          get-packed slots.live keys sound.packed values k,
          position_cases slots.live keys sound.packed k,
          writes.live k,
          slice_get-map (with_packed_value values) list k.index,
        );
        vacant = λ i next got. at_index i (empty_slot _) (writes.vacant i next got);
        detached = λ k is. at_index k.index (empty_slot _) (writes.detached k is);
        retired = λ k is. at_index k.index (empty_slot _) (writes.retired k is);
        each = λ i from to. grind (arith, writes.each i from, same.all, same.each);
      }
