-- The content of a map that is read from a list, and the state of the machine for it.
-- For the crates of maps.
use Rattle.std.proofs.Common.{◌≡◌, ◌≢◌, inl, ◌+◌, ◌%◌, sym, ◌∙◌, arith, ℕ, Bool, true, List, slice_get, Some}
use Rattle.std.proofs.lemmas.Bool.Decides.{nat_tests}
use Rattle.std.proofs.lemmas.Option.{slice_get_within, same_Some}
use Rattle.slotmap_core.specs.Words.{Key, Content, IsContent, Stands, start_stack, StartsFrom, start_state, start_places, Fits, IsIssued, Accepts, StackMap, content_of_places}
use Rattle.slotmap_core.specs.declared.serial.SlotRecord.{SlotRecord}
use Rattle.slotmap_core.proofs.FromList.AtKeysLemmas.{LiveSlot, live_in, in_contents, next_in, in_start_next, retired_in, in_start_retired, issued_in, in_start_issued}
use Rattle.slotmap_core.proofs.FromList.StartLemmas.{consistent_at, length-start_places, sentinel-start_places, live-start_places, retired-start_places, next-start_places, detached-start_places}
use Rattle.slotmap_core.proofs.Places.PlacesLemmas.{total}
use Rattle.slotmap_core.proofs.Contents.Retired.{IsRetiredIn, retired_is}
use Rattle.std.specs.FinSet as set

module _ {V : Type 0} (slots : List (SlotRecord V)) (limit : ℕ) (accepted : Accepts slots limit) where
  -- if the places are those of the slots, and the stack is that of the vacant ones
  pub starts-stack : (m : StackMap V) → m.places ≡ start_places slots → m.vacant ≡ start_stack slots → StartsFrom slots (content_of_places m)
  starts-stack m is_places is_vacant_version = record {
    live = rw is_places (live-start_places slots limit accepted);
    detached = rw is_places (detached-start_places slots);
    retired = rw is_places (retired-start_places slots limit accepted);
    next = rw is_places (next-start_places slots limit accepted);
    stack = λ stack is. sym (same_Some m.vacant stack is) ∙ is_vacant_version;
    places = rw is_places (omega (arith, total (start_places slots) 1 (sentinel-start_places slots limit accepted), length-start_places slots));
  }

  module _ (reuses : Bool) (c : Content V) (starts : StartsFrom slots c) (valid : IsContent reuses c) where
    live_slot_at : (k : Key) → Stands c k → (slot : SlotRecord V) × (slice_get slots k.index ≡ Some slot) × ((v : V) × LiveSlot k.index slot k v)
    live_slot_at k stands = grind (arith, live_in, set.contains-empty)

    live_is_issued : (k : Key) → Stands c k → IsIssued (start_state slots) k
    live_is_issued k stands = let at = live_slot_at k stands in grind (arith, nat_tests, in_start_issued slots k.index at.0 at.1, (valid.within k (inl stands)).0)

    -- an issued key that is neither live nor detached, and the last of its index, is retired
    retired_in_content : (k : Key) → IsRetiredIn (start_state slots) k → set.contains c.retired k ≡ true
    retired_in_content k spent =
        let at = issued_in slots k spent.issued in
        let slot = at.0 in
        let consistent = consistent_at slots limit accepted k.index slot at.1 in
        let next = λ (even : slot.version % 2 ≡ 0) (other : slot.version ≢ 0).
        valid.vacancies k.index (slot.version + 1) (rw starts.next (in_start_next slots k.index slot at.1 at.2.positive even other)) in
        rw starts.retired (grind (arith, nat_tests, next, in_contents slots k.index slot, in_start_retired slots k.index slot at.1))

    retired_in_state : (k : Key) → set.contains c.retired k ≡ true → IsRetiredIn (start_state slots) k
    retired_in_state k is = grind (arith, in_start_issued slots k.index, retired_in slots k)

    -- the list's state fits a map that was just read from it
    pub starts-fit : Fits (start_state slots) c
    starts-fit =
        grind (
          arith,
          retired_is (start_state slots) c.retired retired_in_content retired_in_state,
          retired_in_content,
          retired_in_state,
          live_is_issued,
          issued_in,
          slice_get_within,
          next_in,
          nat_tests,
          live_slot_at,
        )
