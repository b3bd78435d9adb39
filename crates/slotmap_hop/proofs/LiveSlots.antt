-- The slot of a live key: what a look-up, a removal or a write knows of it, and makes of it.
use Rattle.std.specs.FinMap as map
use Rattle.std.proofs.Common.{◌≡◌, ◌≢◌, ◌+◌, ◌-◌, ◌^◌, ◌<◌, ◌≤◌, ◌==◌, ◌∷◌, is_some, subst, ◌∙◌, arith, option_and_then, length, slice_get, get_or}
use Rattle.std.proofs.Common.{sym, ap, ℕ, true, false, List, set, Some, None}
use Rattle.slotmap_core.proofs.Common.{slice_get_past, get_or_from_slice_get, map-set_same, last_version, slice_get-set_other, get-live, len-live-set, IsStacked-kept, IsStacked-freed, content-written}
use Rattle.slotmap_core.proofs.Common.{nat_tests, length-set, Key, IsKey, key_cmp, Live, Vacant, Retired, live, live_value, key, get-live_at, total, live_at, not_first, same_read}
use Rattle.slotmap_hop.specs.Slots.{Slot, State, Occupied, version_in, links_in, place_in, all_links, places_of, value_in, value_at, CanFree, next_place, offer_at, hop_content, IsSound}
use Rattle.slotmap_hop.specs.{Links.blocks_of, Links.HasBlockList, HopContent.hop_with_value}
use Rattle.slotmap_hop.proofs.SlotLemmas.{key_is, vacant_slot, place_not_vacant, slots_fit, back_vacant, in_order, ordered_map}
use Rattle.slotmap_hop.proofs.SlotReads.{length-all_links, length-places, slot_cases, places_written}
use Rattle.slotmap_hop.proofs.Growth.{IsSound-set}

-- the slot of a live place
live_slot : {V : Type 0} (slots : List (Slot V)) (i v : ℕ) (x : V) → slice_get (places_of slots) i ≡ Some (Live v x)
    → (i < length slots) × (state : State) × (slice_get slots i ≡ Some (Occupied state v x))
live_slot slots i v x index = grind (arith, slot_cases slots i)

module _ {V : Type 0} (slots : List (Slot V)) (vacant elems : ℕ) (sound : IsSound slots vacant elems) where
  pub contains-version : (k : Key) (s : Slot V) → IsKey k → slice_get slots k.index ≡ Some s → (version_in s == k.version) ≡ map.contains_key (live (places_of slots)) k
  contains-version k s is found =
      grind (arith, nat_tests, is.odd, get-live (places_of slots) k, slot_cases slots k.index, sound.stacked.versions k.index (place_in s), sound.none_detached k.index (version_in s))

  pub contains-past : (k : Key) → length slots ≤ k.index → map.contains_key (live (places_of slots)) k ≡ false
  contains-past k past = ap is_some (get-live (places_of slots) k ∙ ap (live_value k.version) (slice_get_past (places_of slots) k.index (omega (arith, length-places slots))))

-- the slot of a key that is live
pub record Present {V : Type 0} (slots : List (Slot V)) (lives : map.FinMap key_cmp V) (k : Key) (i v : ℕ) : Type 0 where
  pub state : State
  pub value : V
  pub found : slice_get slots i ≡ Some (Occupied state v value)
  pub within : i < length slots
  pub index : slice_get (places_of slots) i ≡ Some (Live v value)
  pub key_is_at : k ≡ key i v
  pub gives : map.get lives k ≡ Some value

pub present : {V : Type 0} (slots : List (Slot V)) (lives : map.FinMap key_cmp V) → live (places_of slots) ≡ lives → (k : Key) (i v : ℕ) → i ≡ k.index → v ≡ k.version
    → map.contains_key lives k ≡ true → Present slots lives k i v
present slots lives all k i v at of holds = grind (arith, live_at, live_slot, get-live_at)

-- what is read at its index
module _ {V : Type 0} {slots : List (Slot V)} {lives : map.FinMap key_cmp V} {k : Key} {i v : ℕ} (found : Present slots lives k i v) (read : Slot V) (is_read : read ≡ get_or slots i read) where
  pub slot_read : read ≡ Occupied found.state v found.value
  slot_read = same_read slots i read _ is_read found.found

  pub version_read : (s : State) (u : ℕ) (x : V) → read ≡ Occupied s u x → u ≡ v
  version_read s u x is = sym (ap version_in is) ∙ ap version_in slot_read

  pub read_gives : (s : State) (u : ℕ) (x : V) → read ≡ Occupied s u x → map.get lives k ≡ Some x
  read_gives s u x is = found.gives ∙ sym (ap value_in slot_read) ∙ ap value_in is

-- the slot of a live key

module _ {V : Type 0} (slots : List (Slot V)) (vacant elems : ℕ) (sound : IsSound slots vacant elems) (i v : ℕ) (x : V) (index : slice_get (places_of slots) i ≡ Some (Live v x)) where
  pub live_within : i < length slots
  live_within = (live_slot slots i v x index).0

  -- its index and version are those of a key
  pub live_key : IsKey (key i v)
  live_key = let fits = slots_fit slots vacant elems sound in key_is (omega (arith, live_within)) (sound.stacked.versions i (Live v x) index)

  pub elems_positive : 1 ≤ elems
  elems_positive = omega (arith, len-live-set (places_of slots) i (Live v x) Retired index, sound.elems_live)

  pub vacant_below : vacant + 1 < 2 ^ 32
  vacant_below = grind (arith, total, length-places, elems_positive, slots_fit)

  pub can_free : CanFree slots i
  can_free = grind (arith, live, place_not_vacant, not_first, live_within, length-all_links, live_slot)

  -- the value that was taken out
  pub value_is : (y : V) → value_at slots i ≡ Some y → Some x ≡ Some y
  value_is y is = sym (ap (option_and_then value_in) (live_slot slots i v x index).2) ∙ is

  -- the slot becomes vacant
  pub sound-freed : (new : List (Slot V)) → HasBlockList (all_links new) → places_of new ≡ set (places_of slots) i (Vacant (v + 1 + 1))
      → v ≢ last_version → IsSound new (vacant + 1) (elems - 1)
  sound-freed new list after other =
      let version = sound.stacked.versions i (Live v x) index in
      IsSound-set slots vacant elems sound new i (Live v x) (Vacant (v + 1 + 1)) index (λ u e. absurd (cc)) list after (i ∷ sound.stack)
      (IsStacked-freed (places_of slots) sound.stack sound.stacked i v (v + 1 + 1) x index (omega (arith, version.0, version.1), omega (arith, version.1)) (omega (arith, version.1))) _ _
      (omega (arith, sound.counted))
      (omega (arith, len-live-set (places_of slots) i (Live v x) (Vacant (v + 1 + 1)) index, sound.elems_live))

  -- the slot is retired
  pub sound-retired : (new : List (Slot V)) → all_links new ≡ all_links slots → places_of new ≡ set (places_of slots) i Retired → IsSound new vacant (elems - 1)
  sound-retired new same after =
      IsSound-set slots vacant elems sound new i (Live v x) Retired index (λ u e. absurd (cc)) (subst HasBlockList (sym same) sound.linked) after sound.stack
      (IsStacked-kept (places_of slots) sound.stack sound.stacked i (Live v x) Retired index (λ n e. absurd (cc)) (λ n e. absurd (cc)) tt) _ _ sound.counted
      (omega (arith, len-live-set (places_of slots) i (Live v x) Retired index, sound.elems_live))

-- another value is written to a live slot
module _ {V : Type 0} (slots : List (Slot V)) (vacant elems : ℕ) (sound : IsSound slots vacant elems) (i v : ℕ) (x : V)
    (index : slice_get (places_of slots) i ≡ Some (Live v x)) (state : State) (u : ℕ) (same : u ≡ v) (w : V) where
  abbrev rewritten : List (Slot V)
  rewritten = set slots i (Occupied state u w)

  all_links-rewritten : all_links rewritten ≡ all_links slots
  all_links-rewritten =
      let here = live_slot slots i v x index in
      let old : Slot V = Occupied here.1 v x in
      let read = get_or_from_slice_get slots i old old here.2 in
      map-set_same (λ (s : Slot V). links_in s) slots i _ old (sym (ap links_in read))

  places-rewritten : places_of rewritten ≡ set (places_of slots) i (Live v w)
  places-rewritten = places_written slots i (Occupied state u w) ∙ ap (λ u. set (places_of slots) i (Live u w)) same

  pub sound-rewritten : IsSound rewritten vacant elems
  sound-rewritten =
      IsSound-set slots vacant elems sound rewritten i (Live v x) (Live v w) index (λ u e. absurd (cc)) (subst HasBlockList (sym all_links-rewritten) sound.linked) places-rewritten sound.stack
      (IsStacked-kept (places_of slots) sound.stack sound.stacked i (Live v x) (Live v w) index (λ n e. absurd (cc)) (λ n e. absurd (cc))
      (sound.stacked.versions i (Live v x) index)) _ _ sound.counted
      (omega (arith, len-live-set (places_of slots) i (Live v x) (Live v w) index, sound.elems_live))

  same_offer : offer_at (set (places_of slots) i (Live v w)) (next_place slots) ≡ offer_at (places_of slots) (next_place slots)
  same_offer =
      let at = vacant_slot slots (next_place slots) (back_vacant slots vacant elems sound) in
      grind (arith, length-set (places_of slots) i (Live v w), slice_get-set_other (places_of slots) i (next_place slots) (Live v w))

  pub content-rewritten : (c : ℕ) → hop_content rewritten c ≡ hop_with_value (hop_content slots c) (key i v) w
  content-rewritten c =
      let ordered = in_order slots vacant elems sound in
      let all = content-written (ordered_map slots vacant elems sound c) ordered.ordered (key i v) x index w in
      let offers = same_offer in
      rw (places-rewritten, all_links-rewritten) (λ j. record { content = record (all j) { offer = offers j; stack = None }; blocks = blocks_of (all_links slots) })
