-- What a loop over the live keys of a map knows of those ahead of it.
use native.Mathlib.Decide.{dec_lt}
use Rattle.std.proofs.Common.{◌≡◌, ◌+◌, ◌%◌, ◌^◌, ◌<◌, ◌≤◌, ◌↔◌, true, List, length, get_or, Some, is_some, slice_get, option_map, refl, sym, ap, ◌∙◌, arith}
use Rattle.slotmap_core.proofs.Common.{Key, Content, IsContent, with_value, length-map, slice_get-map, get_or_from_slice_get, slice_get-get_or, keys_total, get-remove_other, same_live, removed_places}
use Rattle.slotmap_core.proofs.Common.{IsLive, places, key, Removes, ℕ}
use Rattle.slotmap_slots.specs.Slot.{Slot, version_at, AreSlotsOf}
use Rattle.slotmap_basic.specs.{Ahead.KnowsLiveKeys, Odds.IsAhead}
use Rattle.slotmap_basic.specs.Columns.{AllEven, IsNextOdd, versions_of, NoneLive}
use Rattle.slotmap_basic.specs.declared.columns.odds.OddCursor.{OddCursor}
use Rattle.slotmap_slots.proofs.SlotLemmas.{live_slot, get-live_slot}
use Rattle.slotmap_slots.proofs.SettledLemmas.{settled_valid, settled_places, settled_fits, settled_present}
use Rattle.slotmap_basic.proofs.OddsLemmas.{odd_within, ahead_same}
use Rattle.std.specs.FinMap as map

module _ {P : Type 0} (c new : Content P) (cursor : OddCursor) (of : KnowsLiveKeys c cursor) where
  -- the same keys are live from the loop's index on
  cursor_kept : places new ≡ places c → ((k : Key) → cursor.index ≤ k.index → IsLive new k ↔ IsLive c k) → KnowsLiveKeys new cursor
  cursor_kept all same = grind arith

  -- a key that the loop has passed is removed
  pub cursor_removed : IsContent true c → (k : Key) → IsLive c k → k.index < cursor.index → Removes c k new → KnowsLiveKeys new cursor
  cursor_removed well k is_live passed removes = cursor_kept (removed_places true c new well k is_live removes) (λ q from.
      let other : map.contains_key new.live q ≡ map.contains_key c.live q =
      ap (λ m. map.contains_key m q) removes.live ∙ ap is_some (get-remove_other c.live k q (λ same. omega (arith, passed, from, ap (λ k. k.index) same))) in
      (λ there. sym other ∙ there, λ there. other ∙ there))

-- a value is written
pub cursor_written : {P : Type 0} (c : Content P) (k : Key) (w : P) (cursor : OddCursor) → IsLive c k → KnowsLiveKeys c cursor → KnowsLiveKeys (with_value c k w) cursor
cursor_written c k w cursor is_live of = cursor_kept c (with_value c k w) cursor of (grind (arith, map.len-insert, keys_total)) (λ q from.
    (λ there. sym (same_live c k w is_live q) ∙ there, λ there. same_live c k w is_live q ∙ there))

module _ {P : Type 0} (slots : List (Slot P)) where
  version-at : (i : ℕ) → slice_get (versions_of slots) i ≡ version_at slots i
  version-at i = slice_get-map (λ s. s.version) slots i

  pub versions-length : length (versions_of slots) ≡ length slots
  versions-length = length-map slots (λ s. s.version)

  -- the version at the next odd index is odd
  pub odd_at : (start i v : ℕ) → version_at slots i ≡ Some v → IsNextOdd (versions_of slots) start i → v % 2 ≡ 1
  odd_at start i v at next = next.odd v (version-at i ∙ at)

  pub none_odd : (start end : ℕ) → AllEven (versions_of slots) start end → NoneLive slots start end
  none_odd start end even i v from to at = even i v from to (version-at i ∙ at)

module _ {P : Type 0} {slots : List (Slot P)} {now : Content P} (shows : AreSlotsOf slots now) where
  pub valid_of_slots : IsContent true now
  valid_of_slots = settled_valid shows.settled shows.content

  pub count_of_slots : places now + 1 ≡ length slots
  count_of_slots = settled_places shows.settled shows.content

  pub slots_below_limit : length slots < 2 ^ 32
  slots_below_limit = settled_fits shows.settled shows.content

  -- an odd version is that of a live key
  pub live_at_odd : (i v : ℕ) → version_at slots i ≡ Some v → v % 2 ≡ 1 → IsLive now (key i v)
  live_at_odd i v found odd =
      let there = live_slot shows.settled.sound i v found odd in
      ap (λ c. map.contains_key c.live (key i v)) (sym shows.content) ∙ ap is_some (get-live_slot shows.settled.sound (key i v) there.0 there.1)

  -- no live key is between two indices if no version there is odd
  pub passed_over : (start end : ℕ) → NoneLive slots start end → (q : Key) → IsLive now q → start ≤ q.index → end ≤ q.index
  passed_over start end passed q is_live from = grind (arith, settled_present shows.settled shows.content q is_live, passed q.index q.version from)

  -- the version at the index of a live key
  pub live_version : (k : Key) → IsLive now k → version_at slots k.index ≡ Some k.version
  live_version k is_live = ap (option_map (λ s. s.version)) (settled_present shows.settled shows.content k is_live).there

  -- where a key is live the version is odd
  odd_there : (k : Key) → IsLive now k → get_or (versions_of slots) k.index 0 % 2 ≡ 1
  odd_there k is_live =
      ap (λ x. x % 2) (get_or_from_slice_get (versions_of slots) k.index _ 0 (version-at slots k.index ∙ live_version k is_live)) ∙ (settled_present shows.settled shows.content k is_live).odd

  -- and where it is odd a key is live
  live_there : (i : ℕ) → get_or (versions_of slots) i 0 % 2 ≡ 1 → (k : Key) × IsLive now k × (k.index ≡ i)
  live_there i odd = (_, live_at_odd i _ (sym (version-at slots i) ∙ (slice_get-get_or (versions_of slots) i 0 (odd_within _ i odd))) odd, refl)

  pub cursor_of_slots : (cursor : OddCursor) → IsAhead (versions_of slots) cursor.run_end cursor.end cursor.index cursor.bits → KnowsLiveKeys now cursor
  cursor_of_slots cursor ahead = record {
    versions = versions_of slots;
    all = omega (arith, versions-length slots, count_of_slots);
    live = λ k is_live from. odd_there k is_live;
    odd = λ i from odd. live_there i odd;
    ahead = ahead;
  }

  same_odd : (x y : ℕ) → (x % 2 ≡ 1 → y % 2 ≡ 1) → (y % 2 ≡ 1 → x % 2 ≡ 1) → x % 2 ≡ y % 2
  same_odd x y to back = grind (arith, dec_lt)

  pub ahead_of_slots : (cursor : OddCursor) → KnowsLiveKeys now cursor → IsAhead (versions_of slots) cursor.run_end cursor.end cursor.index cursor.bits
  ahead_of_slots cursor of = ahead_same of.versions (versions_of slots) cursor.run_end cursor.end cursor.index cursor.bits of.ahead
      (omega (arith, of.all, versions-length slots, count_of_slots)) (λ i from.
      same_odd _ _
      (λ odd. let found = live_there i odd in ap (λ j. get_or of.versions j 0 % 2) (sym found.2) ∙ of.live found.0 found.1 (omega (arith, from, found.2)))
      (λ odd. let found = of.odd i from odd in ap (λ j. get_or (versions_of slots) j 0 % 2) (sym found.2) ∙ odd_there found.0 found.1))
