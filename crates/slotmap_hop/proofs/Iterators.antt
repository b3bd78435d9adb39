-- What an iterator that skips blocks has yet to yield, at its start and after each step.
use Rattle.std.specs.FinMap as map
use Rattle.std.specs.FinSet as set
use Rattle.std.proofs.Common.{◌≡◌, ◌+◌, ◌-◌, ◌≤◌, ◌∷◌, ℕ, true, List, [], length, drop, set, ◌∙◌, refl, sym, ap, subst, arith}
use Rattle.slotmap_core.proofs.Common.{nil_from_length, drop-set-lt, key_cmp, Place, Retired, live, retired_entry, gather, retired_fits, detached_laws, len-add, entries-live}
use Rattle.slotmap_core.specs.Places.{retired}
use Rattle.slotmap_hop.specs.Iter.{pairs_left, retired_left, IsIter, CanGoOn, FindsLive, ReadsOnTheWay, ListsRetired}
use Rattle.slotmap_hop.specs.Slots.{Slot, all_links, places_of, hop_content, IsSound}
use Rattle.slotmap_hop.specs.Blocks.{Begins, IsBlock}
use Rattle.slotmap_hop.specs.Links.{vacant_at, end_at, fronts_of}
use Rattle.slotmap_hop.proofs.HoppingLemmas.{pairs_from, retired_from, past_block, stands_on}
use Rattle.slotmap_hop.proofs.{BlockLemmas.clash, BlockLemmas.begins_after, Circle.block_at, Vacating.zero_in_circle, SlotReads.slot_within, SlotLemmas.place_not_vacant, LiveSlots.sound-retired}

module _ {V : Type 0} where
  set-retired_from : (j : ℕ) (ps : List (Place V)) → set.from_list (retired_from j ps) ≡ gather (set.empty {R = key_cmp}) (λ s e. set.insert s e.0) retired_entry j ps
  set-retired_from j [] = refl
  set-retired_from j (p ∷ ps) = grind (arith, set-retired_from (j + 1) ps)

  len-retired_from : (j : ℕ) (ps : List (Place V)) → set.len (gather (set.empty {R = key_cmp}) (λ s e. set.insert s e.0) retired_entry j ps) ≡ length (retired_from j ps)
  len-retired_from j [] = set.len-empty key_cmp
  len-retired_from j (p ∷ ps) = grind (arith, len-add detached_laws (λ k. k.index) (retired_entry {V = V}) retired_fits j p ps, len-retired_from (j + 1) ps)

  -- they are the retired keys, each once
  retired-listed : (ps : List (Place V)) → (set.from_list (retired_from 0 ps) ≡ retired ps) × (length (retired_from 0 ps) ≡ set.len (retired ps))
  unfolding retired
  retired-listed ps = (set-retired_from 0 ps, sym (len-retired_from 0 ps))

module _ {V : Type 0} {slots : List (Slot V)} {reads index left : ℕ} (iterates : IsIter slots reads index left) where
  pub can_go_on : CanGoOn slots reads index
  can_go_on = record { stands = iterates.stands; passed = iterates.passed }

  pub left_none : left ≡ 0 → pairs_left slots index ≡ []
  left_none none = nil_from_length (pairs_left slots index) (omega (arith, iterates.counted))

  module _ {found version : ℕ} {value : V} {reads' : ℕ} (finds : FindsLive slots index found version value) (way : ReadsOnTheWay slots reads index reads' found) where
    pub iter_on : IsIter slots reads' (found + 1) (left - 1)
    iter_on = grind (arith, stands_on, begins_after, place_not_vacant)

    -- the value that was found is moved out
    module _ (new : List (Slot V)) (same : all_links new ≡ all_links slots) (after : places_of new ≡ set (places_of slots) found Retired) where
      pub pairs-taken : pairs_left new (found + 1) ≡ pairs_left slots (found + 1)
      pairs-taken = ap (λ ps. pairs_from (found + 1) (drop (found + 1) ps)) after ∙ ap (pairs_from (found + 1)) (drop-set-lt (found + 1) (places_of slots) found Retired (omega arith))

      pub iter_taken : IsIter new 0 (found + 1) (left - 1)
      iter_taken = record {
        stands = record {
          vacant = iterates.stands.vacant;
          elems = iterates.stands.elems - 1;
          sound = sound-retired slots iterates.stands.vacant iterates.stands.elems iterates.stands.sound found version value finds.there new same after;
          at_front = subst (λ es. vacant_at es (found + 1) ≡ true → Begins (vacant_at es) (found + 1)) (sym same) iter_on.stands.at_front;
        };
        counted = iter_on.counted ∙ ap length (sym pairs-taken);
        passed = omega arith;
      }

module _ {V : Type 0} (slots : List (Slot V)) (vacant elems : ℕ) (sound : IsSound slots vacant elems) where
  -- an iterator starts after the block of place 0
  first_place : IsBlock (vacant_at (all_links slots)) 0 (end_at (all_links slots) 0)
  first_place = block_at 0 sound.linked.linked (zero_in_circle (fronts_of (all_links slots)))

  pub start_inside : end_at (all_links slots) 0 + 1 ≤ length slots
  start_inside = omega (arith, slot_within slots (end_at (all_links slots) 0) (first_place.inside _ first_place.ordered (omega arith)))

  pub pairs-start : pairs_left slots (end_at (all_links slots) 0 + 1) ≡ map.entries (live (places_of slots))
  pairs-start = sym (past_block slots 0 (end_at (all_links slots) 0) first_place).0 ∙ sym (entries-live (places_of slots))

  pub retired-start : (c : ℕ) → ListsRetired (hop_content slots c) (retired_left slots (end_at (all_links slots) 0 + 1))
  retired-start c =
      grind (arith, retired-listed (places_of slots), past_block slots 0 (end_at (all_links slots) 0) first_place, (retired-listed (places_of slots)).0, (retired-listed (places_of slots)).1)

  pub iter_starts : IsIter slots 0 (end_at (all_links slots) 0 + 1) elems
  iter_starts = grind (arith, clash, first_place, map.len-entries, live, pairs-start)
