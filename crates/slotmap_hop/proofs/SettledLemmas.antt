-- What calls know of a map's slots, by what the map holds.
use Rattle.std.specs.FinMap as map
use Rattle.std.proofs.Common.{◌≡◌, ◌≢◌, ◌+◌, ◌-◌, ◌^◌, ◌<◌, ℕ, List, length, set, get_or, Some, vec_capacity, refl, sym, ap, subst, ◌∙◌, arith, eq-eqb, ne_eqb}
use Rattle.slotmap_core.proofs.Common.{nat_tests, with_items, with_items_is, Key, IsKey, last_version, IsLive, most, Inserts, Removes, Place, Live, Vacant, Retired, left_by, used_places, same_read}
use Rattle.slotmap_core.proofs.Common.{key}
use Rattle.slotmap_hop.specs.declared.HopSlotMap.TheInside.{Inside}
use Rattle.slotmap_hop.specs.Slots.{all_links, Slot, version_in, places_of, value_at, next_place, hop_content, IsSound}
use Rattle.slotmap_hop.specs.Links.{HasBlockList, vacant_at, blocks_of}
use Rattle.slotmap_hop.specs.HopContent.{HopContent, IsHopContent, StaysHop, blocks_without}
use Rattle.slotmap_hop.specs.Blocks.{vacated}
use Rattle.slotmap_hop.proofs.SlotLemmas.{valid, same_length, same_counts, key_is, slots_fit, taken_slots}
use Rattle.slotmap_hop.proofs.Growth.{removes-slots, back_slot, none_left, none_offered, some_offered, offer-end, offer-back, sound-filled, inserts-filled}
use Rattle.slotmap_hop.proofs.LiveSlots.{Present, present, value_is, sound-freed, sound-retired}

module _ {K V : Type 0} (m : Inside K V) {now : HopContent V} (view : hop_content m.slots.items (vec_capacity m.slots - 1) ≡ now) (sound : IsSound m.slots.items m.vacant_count m.live_count) where
  pub well_formed : IsHopContent now
  well_formed = subst IsHopContent view (valid _ _ _ sound _ (omega (arith, m.slots.ok.0, m.slots.ok.1)))

  pub held : (k : Key) (i v : ℕ) → i ≡ k.index → v ≡ k.version → IsLive now.content k → Present m.slots.items now.content.live k i v
  held k i v at of is_live = present m.slots.items now.content.live (ap (λ m. m.content.live) view) k i v at of is_live

  -- what room means for the vector
  held_room : 0 < now.content.room → (used_places (places_of m.slots.items) < most) × (length m.slots.items < vec_capacity m.slots - 1 + 1 + m.vacant_count)
  held_room room = let same = ap (λ m. m.content.room) view in (omega (arith, taken_slots _ _ _ sound), omega (arith, taken_slots _ _ _ sound))

  stays : (new : List (Slot V)) (vacant elems : ℕ) → length new ≡ length m.slots.items → IsSound (with_items m.slots new).items vacant elems
      → StaysHop now (hop_content (with_items m.slots new).items (vec_capacity m.slots - 1))
  stays new vacant elems size after =
      let items = with_items_is m.slots new (size ∙ sym m.slots.ok.0) in
      record { before = well_formed; after = valid _ vacant elems after _ (omega (arith, ap length items, size, m.slots.ok.0, m.slots.ok.1)); capacity = ap (λ m. m.content.capacity) view }

  -- the value of a live key was taken out, and the vector has these slots now
  pub record Took (k : Key) (x : V) (new : List (Slot V)) (vacant : ℕ) : Type 0 where
    pub sound_after : IsSound (with_items m.slots new).items vacant (m.live_count - 1)
    pub value : map.get now.content.live k ≡ Some x
    pub removes : Removes now.content k (hop_content (with_items m.slots new).items (vec_capacity m.slots - 1)).content
    pub blocks : blocks_of (all_links (with_items m.slots new).items) ≡ blocks_without now k
    pub valid : StaysHop now (hop_content (with_items m.slots new).items (vec_capacity m.slots - 1))

  module _ {k : Key} {i v : ℕ} (found : Present m.slots.items now.content.live k i v) (x : V) (new : List (Slot V)) (read : value_at m.slots.items i ≡ Some x) where
    took : (p : Place V) (vacant : ℕ) → places_of new ≡ set (places_of m.slots.items) i p → p ≡ left_by (key i v) → IsSound new vacant (m.live_count - 1)
        → blocks_of (all_links new) ≡ blocks_without (hop_content m.slots.items (vec_capacity m.slots - 1)) (key i v) → Took k x new vacant
    took p vacant after left sound_new blocks =
        let c = vec_capacity m.slots - 1 in
        let size = same_length m.slots.items new i p after in
        let items = with_items_is m.slots new (size ∙ sym m.slots.ok.0) in
        let sound_after = subst (λ xs. IsSound xs vacant (m.live_count - 1)) (sym items) sound_new in
        let removes = removes-slots _ _ _ sound new c (omega (arith, m.slots.ok.0, m.slots.ok.1)) (key i v) _ found.index (after ∙ ap (set (places_of m.slots.items) i) left) in
        record {
          sound_after = sound_after;
          value = found.gives ∙ value_is _ _ _ sound i v found.value found.index x read;
          removes = rw (← view, found.key_is_at) (subst (λ xs. Removes (hop_content m.slots.items c).content (key i v) (hop_content xs c).content) (sym items) removes);
          blocks = rw (← view, found.key_is_at) (ap (λ xs. blocks_of (all_links xs)) items ∙ blocks);
          valid = stays new vacant (m.live_count - 1) size sound_after;
        }

    -- it was the last key of its slot
    pub took_last : v ≡ last_version → all_links new ≡ all_links m.slots.items → places_of new ≡ set (places_of m.slots.items) i Retired → Took k x new m.vacant_count
    took_last last same after =
        took Retired m.vacant_count after (grind (arith, nat_tests)) (sound-retired _ _ _ sound i v _ found.index new same after) (ap blocks_of same ∙ rw (eq-eqb v last_version last) refl)

    pub took_other : v ≢ last_version → HasBlockList (all_links new) → blocks_of (all_links new) ≡ vacated (vacant_at (all_links m.slots.items)) (blocks_of (all_links m.slots.items)) i
        → places_of new ≡ set (places_of m.slots.items) i (Vacant (v + 1 + 1)) → Took k x new (m.vacant_count + 1)
    took_other other list blocks after =
        took (Vacant (v + 1 + 1)) (m.vacant_count + 1) after (grind (arith, nat_tests)) (sound-freed _ _ _ sound i v _ found.index new list after other)
        (blocks ∙ rw (ne_eqb v last_version other) (ap (λ f. vacated f (blocks_of (all_links m.slots.items)) i) (sym (same_counts _ _ _ sound (vec_capacity m.slots - 1)))))

  -- the place of the next insert if no slot is vacant: a new one
  pub record AtEnd : Type 0 where
    pub none : next_place m.slots.items ≡ 0
    pub below : used_places (places_of m.slots.items) < most
    pub fits : length m.slots.items + 1 < 2 ^ 32
    pub holds : length m.slots.items < vec_capacity m.slots
    pub is_key : IsKey (key (length m.slots.items) 1)
    pub offers : now.content.offer ≡ key (length m.slots.items) 1

  pub at_end : m.vacant_count ≡ 0 → 0 < now.content.room → AtEnd
  at_end none room =
      let held = held_room room in
      let at = none_offered _ _ _ sound none in
      let fits : length m.slots.items + 1 < 2 ^ 32 = omega (arith, held.0, none_left _ _ _ sound at, taken_slots _ _ _ sound) in
      let offers = ap (λ m. m.content.offer) (sym view) ∙ offer-end _ _ _ sound at in
      record { none = at; below = held.0; fits = fits; holds = omega (arith, held.1, m.slots.ok.0, taken_slots _ _ _ sound); is_key = key_is fits (omega arith, refl); offers = offers }

  -- the place of the next insert, if a slot is vacant, and what calls read there
  module _ (some : m.vacant_count ≢ 0) {index : ℕ} (is : index ≡ next_place m.slots.items) where
    pub back_within : index < length m.slots.items
    back_within = omega (arith, is, (back_slot _ _ _ sound).within)

    module _ {read : Slot V} (is_read : read ≡ get_or m.slots.items index read) where
      read_is : read ≡ (back_slot _ _ _ sound).slot
      read_is = let back = back_slot _ _ _ sound in same_read m.slots.items index read back.slot is_read (rw is back.there)

      pub back_key : IsKey (key index (version_in read + 1))
      back_key = rw read_is (key_is (omega (arith, back_within, slots_fit _ _ _ sound)) (back_slot _ _ _ sound).version)

      pub offered_back : now.content.offer ≡ key index (version_in read + 1)
      offered_back = rw (is, read_is) (ap (λ m. m.content.offer) (sym view) ∙ offer-back _ _ _ sound (some_offered _ _ _ sound some))

      -- it was filled, and the vector has these slots now
      pub record Filled (x : V) (new : List (Slot V)) : Type 0 where
        pub sound_after : IsSound (with_items m.slots new).items (m.vacant_count - 1) (m.live_count + 1)
        pub inserts : Inserts now.content now.content.offer x (hop_content (with_items m.slots new).items (vec_capacity m.slots - 1)).content
        pub valid : StaysHop now (hop_content (with_items m.slots new).items (vec_capacity m.slots - 1))

      pub filled : (x : V) (given new : List (Slot V)) → given ≡ m.slots.items → 0 < now.content.room → HasBlockList (all_links new)
          → places_of new ≡ set (places_of given) index (Live (version_in read + 1) x) → Filled x new
      filled x given new seen room list places =
          let c = vec_capacity m.slots - 1 in
          let back = back_slot _ _ _ sound in
          let after : places_of new ≡ set (places_of m.slots.items) (next_place m.slots.items) (Live (version_in back.slot + 1) x) = places ∙ rw (seen, is, read_is) refl in
          let size = same_length _ _ _ _ after in
          let items = with_items_is m.slots new (size ∙ sym m.slots.ok.0) in
          let at = some_offered _ _ _ sound some in
          let sound_after = subst (λ xs. IsSound xs (m.vacant_count - 1) (m.live_count + 1)) (sym items) (sound-filled _ _ _ sound new x at list after) in
          let old = (hop_content m.slots.items c).content in
          record {
            sound_after = sound_after;
            inserts = rw (← view) (subst (λ xs. Inserts old old.offer x (hop_content xs c).content) (sym items) (inserts-filled _ _ _ sound new c c x at (held_room room).0 (omega arith) after));
            valid = stays new _ _ size sound_after;
          }
