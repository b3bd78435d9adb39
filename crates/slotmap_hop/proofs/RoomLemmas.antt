-- Room for more keys.
use Rattle.std.proofs.Common.{◌≡◌, ◌+◌, ◌-◌, ◌<◌, ◌≤◌, ◌^◌, ℕ, min, List, length, refl, subst, arith}
use Rattle.slotmap_core.proofs.Common.{used, most, Keeps, used_places, room_had}
use Rattle.slotmap_hop.specs.Slots.{Slot, hop_content, IsSound}
use Rattle.slotmap_hop.specs.HopContent.{HopContent, IsHopContent, MakesHopRoom}
use Rattle.slotmap_hop.proofs.SlotLemmas.{valid, taken_slots, slots_fit}

module _ {V : Type 0} (m : HopContent V) (n : ℕ) (ok : Type 0) (well : IsHopContent m) where
  -- if there is room for n more keys, nothing has to be allocated
  pub hop_room_had : ok → n ≤ m.content.room → MakesHopRoom m n ok m
  hop_room_had is room = record { makes_room = room_had m.content n ok is well.valid room; blocks = refl; before = well; after = well }

  -- if there isn't, a call that changes nothing may fail
  pub hop_room_lacked : (ok → ⊥) → m.content.room < n → MakesHopRoom m n ok m
  hop_room_lacked fails few = record {
    makes_room = record {
      before = well.valid;
      after = well.valid;
      fits = λ is. absurd (fails is);
      room = λ is. absurd (fails is);
      live_and_more = λ is. absurd (fails is);
      succeeds = λ room. absurd (omega arith);
      had_room = λ room. refl;
      keeps = record { live = refl; detached = refl; retired = refl; next = refl; offer = refl; stack = refl; room = omega arith };
      capacity = omega arith;
    };
    blocks = refl;
    before = well;
    after = well;
  }

module _ {V : Type 0} (slots : List (Slot V)) (vacant elems : ℕ) (sound : IsSound slots vacant elems) (fits : ℕ) (holds : length slots ≤ fits)
    {now : HopContent V} (view : hop_content slots (fits - 1) ≡ now) where
  hop_valid : IsHopContent now
  hop_valid = subst IsHopContent view (valid slots vacant elems sound (fits - 1) (omega arith))

  pub room_is : now.content.room + used now.content ≡ min now.content.capacity most
  room_is = rw (← view) (omega (arith, taken_slots slots vacant elems sound, slots_fit slots vacant elems sound))

  -- there is room for the keys of vacant places
  pub vacant_room : vacant ≤ now.content.room
  vacant_room = rw (← view) (omega (arith, taken_slots slots vacant elems sound, slots_fit slots vacant elems sound))

  -- there is room for a new place
  pub spare_room : length slots < min fits (2 ^ 32 - 1) → 0 < now.content.room
  spare_room spare = rw (← view) (omega (arith, taken_slots slots vacant elems sound, slots_fit slots vacant elems sound))

  -- room for n more keys was missing, so memory was requested
  module _ (more : ℕ) (on : fits ≤ more) (n : ℕ) (ok : Type 0) (none : now.content.room < n) where
    grown_valid : IsHopContent (hop_content slots (more - 1))
    grown_valid = valid slots vacant elems sound (more - 1) (omega arith)

    kept : Keeps now.content (hop_content slots (more - 1)).content
    kept = rw (← view) (record { live = refl; detached = refl; retired = refl; next = refl; offer = refl; stack = refl; room = omega arith })

    -- the request succeeded
    pub grown_granted : ok → used now.content + n ≤ most → used now.content + n + 1 ≤ more → MakesHopRoom now n ok (hop_content slots (more - 1))
    grown_granted granted few enough = grind (arith, used_places, kept, hop_valid, grown_valid)

    -- the request failed
    pub grown_refused : (ok → ⊥) → MakesHopRoom now n ok (hop_content slots (more - 1))
    grown_refused fails = grind (arith, kept, hop_valid, grown_valid)
