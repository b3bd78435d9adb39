-- A loop over the live keys of a map, which skips vacant places.
use Rattle.std.specs.FinMap as map
use Rattle.std.proofs.Common.{◌∷◌, ◌≡◌, ◌↔◌, ◌+◌, ◌-◌, ◌<◌, ◌^◌, ◌≢◌, ℕ, zero, suc, true, Option, Some, None, IfSome, IfNone, is_some, List, refl, sym, ap}
use Rattle.std.proofs.Common.{subst, ◌∙◌, arith}
use Rattle.slotmap_core.proofs.Common.{Key, Content, IsLive, NoneBelow, Removes, with_value, NoneBelow-end, get-remove_other, in_after_remove, keys_total, exact_keys, first_entry, above_next, Swept}
use Rattle.slotmap_core.proofs.Common.{Swept-start, Swept-to, Swept-on, Swept-next, Swept-removed, key, get-live_at, same_live, remove-insert}
use Rattle.slotmap_hop.specs.Slots.{Slot, places_of, hop_content, IsSound}
use Rattle.slotmap_hop.specs.HopContent.{HopContent, IsHopContent, IsNextLive, IsNextPlace, MayStand, StaysHop, hop_with_value, blocks_without, blocks_without_all}
use Rattle.slotmap_hop.specs.Iter.{CanGoOn, FindsPlace, FindsNone}
use Rattle.slotmap_hop.proofs.{SlotLemmas.same_counts, WellFormed.IsHopContent-with_value}
use Rattle.slotmap_hop.proofs.BlocksLeft.{blocks_taken, keys_first, keys_none}

-- a search may begin where an iterator may be
pub look_begins : {V : Type 0} (slots : List (Slot V)) (vacant elems : ℕ) → IsSound slots vacant elems → (start c : ℕ)
    → MayStand (hop_content slots c).content start → CanGoOn slots 0 start
look_begins slots vacant elems sound start c may =
    let same = ap (λ f. f (start - 1)) (same_counts slots vacant elems sound c) in
    record { stands = record { vacant = vacant; elems = elems; sound = sound; at_front = λ _ left next. grind arith }; passed = omega arith }

-- what a search finds is the next place
pub place_comes : {V : Type 0} (slots : List (Slot V)) (c start : ℕ) (next : Option ℕ) → IfSome next (λ index. FindsPlace slots start index) → IfNone next (FindsNone slots start)
    → IsNextPlace (hop_content slots c).content start next
place_comes slots c start None found none = none.below
place_comes slots c start (Some index) found none =
    let finds = found.3 in
    ((key index found.1, ap is_some (get-live_at (places_of slots) (key index found.1) index _ refl finds.there), refl), found.0, finds.least)

-- the measure by which a loop over the live keys ends
abbrev pub indices_left : {K : Type 0} → (K → Key) → Option K → ℕ
indices_left data_of None = 0
indices_left data_of (Some k) = 2 ^ 32 - (data_of k).index

abbrev pub places_left : Option ℕ → ℕ
places_left None = 0
places_left (Some index) = 2 ^ 32 - index

-- a loop over the live keys that finds the next key before it removes the present one
module _ {K V : Type 0} (data_of : K → Key) where
  -- between old and now, all keys below the index were visited
  pub record Sweeping (old now : HopContent V) (index : ℕ) (next : Option K) : Type 0 where
    pub swept : Swept true old.content now.content index
    pub valid : IsHopContent now
    pub comes : IsNextLive data_of now.content index next

  module _ (old now : HopContent V) (i : ℕ) (k : K) (sweep : Sweeping old now i (Some k)) where
    -- the next key before and after a write to the value of this one
    pub same_comes : (w : V) (i' : ℕ) (next : Option K) → IsNextLive data_of (with_value now.content (data_of k) w) i' next ↔ IsNextLive data_of now.content i' next
    same_comes w i' next = (λ comes. grind (arith, same_live now.content (data_of k) w sweep.comes.0), λ comes. grind (arith, same_live now.content (data_of k) w sweep.comes.0))

    comes_removed : (new : Content V) (next : Option K) → new.live ≡ map.remove now.content.live (data_of k) → IsNextLive data_of now.content ((data_of k).index + 1) next
        → IsNextLive data_of new ((data_of k).index + 1) next
    comes_removed new next gone comes = grind (arith, in_after_remove keys_total exact_keys now.content.live (data_of k), get-remove_other now.content.live (data_of k))

    -- the key is removed, perhaps after a write to its value
    sweep_removed : (was : Content V) (new : HopContent V) (next : Option K) → Swept true old.content was (data_of k).index → IsLive was (data_of k)
        → new.content.live ≡ map.remove now.content.live (data_of k) → IsNextLive data_of now.content ((data_of k).index + 1) next
        → Removes was (data_of k) new.content → new.content.capacity ≡ was.capacity → IsHopContent new → Sweeping old new ((data_of k).index + 1) next
    sweep_removed was new next swept is_live gone comes removes capacity well = record {
      swept = Swept-removed old.content was new.content (data_of k).index (data_of k) swept is_live refl removes capacity well.valid;
      valid = well;
      comes = comes_removed new.content next gone comes;
    }

    pub sweep_dropped : (w : V) (new : HopContent V) (next : Option K) → IsNextLive data_of now.content ((data_of k).index + 1) next
        → Removes (with_value now.content (data_of k) w) (data_of k) new.content → StaysHop (hop_with_value now (data_of k) w) new → Sweeping old new ((data_of k).index + 1) next
    sweep_dropped w new next comes removes stays =
        sweep_removed (with_value now.content (data_of k) w) new next (Swept-next old.content now.content i (data_of k) w sweep.swept sweep.comes.0 sweep.comes.1)
        (same_live now.content (data_of k) w sweep.comes.0 (data_of k) ∙ sweep.comes.0) (removes.live ∙ remove-insert now.content.live (data_of k) w) comes removes stays.capacity stays.after

    -- the key stays, with another value
    pub sweep_written : (w : V) (next : Option K) → IsNextLive data_of now.content ((data_of k).index + 1) next → Sweeping old (hop_with_value now (data_of k) w) ((data_of k).index + 1) next
    sweep_written w next comes = record {
      swept = Swept-on old.content (with_value now.content (data_of k) w) (data_of k).index (Swept-next old.content now.content i (data_of k) w sweep.swept sweep.comes.0 sweep.comes.1);
      valid = IsHopContent-with_value now (data_of k) w sweep.valid sweep.comes.0;
      comes = (same_comes w ((data_of k).index + 1) next).1 comes;
    }

  -- the loop so far, with what it says about the keys below its index, and which blocks are to come
  pub record Clearing (old now : HopContent V) (next : Option K) : Type 0 where
    pub index : ℕ
    pub sweep : Sweeping old now index next
    pub above : NoneBelow now.content.live index
    pub blocks : blocks_without_all old (map.keys old.content.live) ≡ blocks_without_all now (map.keys now.content.live)

  pub clearing_starts : (m : HopContent V) (next : Option K) → IsHopContent m → IsNextLive data_of m.content 0 next → Clearing m m next
  clearing_starts m next well comes = record { index = 0; sweep = record { swept = Swept-start m.content 0 well.valid; valid = well; comes = comes }; above = λ q there. omega arith; blocks = refl }

  -- the next key is removed, which was the first one
  pub clearing_removed : (old now new : HopContent V) (k : K) (x : V) (next : Option K) → Clearing old now (Some k)
      → IsNextLive data_of now.content ((data_of k).index + 1) next → map.get now.content.live (data_of k) ≡ Some x → Removes now.content (data_of k) new.content
      → new.blocks ≡ blocks_without now (data_of k) → StaysHop now new
      → Clearing old new next × (map.entries now.content.live ≡ (data_of k, x) ∷ map.entries new.content.live)
  clearing_removed old now new k x next clearing comes value removes blocks stays =
      let well = clearing.sweep.valid.valid in
      let least = clearing.sweep.comes in
      let first = first_entry now.content well clearing.index (data_of k) least.2 x clearing.above value ∙ ap (λ m. (data_of k, x) ∷ map.entries m) (sym removes.live) in (
        record {
          index = (data_of k).index + 1;
          sweep = sweep_removed old now clearing.index k clearing.sweep now.content new next
              (Swept-to old.content now.content clearing.index (data_of k).index clearing.sweep.swept least.1) least.0 removes.live comes removes stays.capacity stays.after;
          above = rw removes.live (above_next now.content well clearing.index (data_of k) least.2 least.0 clearing.above);
          blocks = clearing.blocks ∙ ap (blocks_without_all now) (keys_first now.content.live new.content.live (data_of k) x first)
              ∙ blocks_taken now new (data_of k) (map.keys new.content.live) removes blocks;
        },
        first,
      )

  -- no live key is below the next one
  pub next_is_least : (old now : HopContent V) (next : Option K) → Clearing old now next → IsNextLive data_of now.content 0 next
  next_is_least old now next clearing = let comes = clearing.sweep.comes in grind (arith, clearing.above)

  pub clearing_ends : (old now : HopContent V) → Clearing old now None → now.content.live ≡ map.empty
  clearing_ends old now clearing = NoneBelow-end now.content.live clearing.index clearing.sweep.comes clearing.above

  pub clearing_blocks : (old now : HopContent V) → Clearing old now None → now.blocks ≡ blocks_without_all old (map.keys old.content.live)
  clearing_blocks old now clearing = sym (clearing.blocks ∙ ap (blocks_without_all now) (keys_none now.content.live (clearing_ends old now clearing)))
