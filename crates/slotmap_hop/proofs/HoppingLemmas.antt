-- A search for the next live place skips a block of vacant places in one step.
use Rattle.std.proofs.lemmas.List.{append_assoc, length-append}
use Rattle.std.proofs.Common.{◌≡◌, ◌≢◌, ◌+◌, ◌-◌, ◌*◌, ◌<◌, ◌≤◌, ◌^◌, ◌∷◌, ◌++◌, zero, suc, true, false, List, [], length, drop, slice_get, Some, None}
use Rattle.slotmap_core.proofs.Common.{is_some, ◌∙◌, slice_get_within, get_or_from_slice_get, drop_more, All-weaker, last_version, Retired as RetiredPlace, live_entry, retired_entry, HasVersion}
use Rattle.slotmap_core.proofs.Common.{refl, sym, ap, arith, drop_all, All-nil, All-cons, All-push, All, Key, Place, Live, Detached, live, gather, live_at, key, ℕ}
use Rattle.slotmap_hop.specs.Slots.{Slot, value_in, links_in, hop_in, back_in, place_in, all_links, places_of, State, SingleState, FrontState, BackState, Retired, Occupied, Empty}
use Rattle.slotmap_hop.specs.Iter.{pairs_left, retired_left, StandsAt, CanGoOn, FindsNone, FindsSlot, ReadsOnTheWay, Counted, IsRead, GoesTo}
use Rattle.slotmap_hop.specs.Blocks.{Begins, IsBlock}
use Rattle.slotmap_hop.specs.Links.{is_vacant, end_in, NamesApart, vacant_at, links_at, end_at}
use Rattle.slotmap_hop.proofs.SlotReads.{length-places, slot_within, place_at, slot_cases, occupied}
use Rattle.slotmap_hop.proofs.BlockLemmas.{clash, begins_after, front_here}
use Rattle.slotmap_hop.proofs.Circle.{shown}
use Rattle.slotmap_hop.proofs.SlotLemmas.{place_not_vacant, slots_fit, vacant_slot}
use Rattle.std.specs.FinMap as map

module _ {V : Type 0} where
  -- what is yielded at these places, and the keys of the retired ones, where the first place has this index
  abbrev pub pairs_from : ℕ → List (Place V) → List (Key × V)
  pairs_from i ps = gather [] (λ es e. e ∷ es) live_entry i ps

  abbrev pub retired_from : ℕ → List (Place V) → List Key
  retired_from i ps = gather [] (λ ks e. e.0 ∷ ks) retired_entry i ps

  -- the retired places from j on aren't below j
  above : (i j : ℕ) (ps : List (Place V)) → i < j → All (λ k. i < k.index) (retired_from j ps)
  above i j [] low = All-nil (λ k. i < k.index)
  above i j (p ∷ ps) low = let rest = above i (j + 1) ps (omega arith) in grind (arith, All-cons (λ k. i < k.index) (key j last_version) (retired_from (j + 1) ps) low rest)

module _ {V : Type 0} (slots : List (Slot V)) where
  -- a step over a place, where a list is made of the places from it on
  left-on : {X : Type 0} (from : ℕ → List (Place V) → X) (i : ℕ) (p : Place V) → slice_get (places_of slots) i ≡ Some p
      → from i (drop i (places_of slots)) ≡ from i (p ∷ drop (i + 1) (places_of slots))
  left-on from i p found = let ps = places_of slots in ap (from i) (drop_more ps i p (slice_get_within ps i p found) ∙ ap (λ y. y ∷ drop (i + 1) ps) (get_or_from_slice_get ps i p p found))

  -- a sequence of vacant places holds nothing
  skip : (k i j : ℕ) → i + k ≡ j → ((x : ℕ) → i ≤ x → x < j → vacant_at (all_links slots) x ≡ true)
      → (pairs_left slots i ≡ pairs_left slots j) × (retired_left slots i ≡ retired_left slots j)
  skip zero i j on vacant = let same : i ≡ j = omega arith in rw same (refl, refl)
  skip (suc k) i j on vacant =
      let here = vacant_slot slots i (vacant i (omega arith) (omega arith)) in
      let rest = skip k (i + 1) j (omega arith) (λ x low high. vacant x (omega arith) high) in
      (left-on pairs_from i _ here.3 ∙ rest.0, left-on retired_from i _ here.3 ∙ rest.1)

  pub past_block : (front back : ℕ) → IsBlock (vacant_at (all_links slots)) front back → (pairs_left slots front ≡ pairs_left slots (back + 1))
      × (retired_left slots front ≡ retired_left slots (back + 1))
  past_block front back block = skip (back + 1 - front) front (back + 1) (omega (arith, block.ordered)) (λ x low high. block.inside x low (omega arith))

  -- the block that begins where the iterator is
  block_here : (i : ℕ) → StandsAt slots i → vacant_at (all_links slots) i ≡ true → IsBlock (vacant_at (all_links slots)) i (end_at (all_links slots) i)
  block_here i stands vacant = ((shown stands.sound.linked.linked).ends i (front_here (vacant_at (all_links slots)) i vacant (stands.at_front vacant))).0

  pub stands_on : (i j : ℕ) → StandsAt slots i → (vacant_at (all_links slots) j ≡ true → Begins (vacant_at (all_links slots)) j) → StandsAt slots j
  stands_on i j stands front = record { vacant = stands.vacant; elems = stands.elems; sound = stands.sound; at_front = front }

-- a vacant slot is left at the end of its block
hop_to_back : {V : Type 0} (index : ℕ) (s : Slot V) → is_vacant (links_in s) ≡ true → NamesApart index (links_in s) → index ≤ end_in index (links_in s)
    → hop_in index s ≡ end_in index (links_in s)
hop_to_back index s vacant apart ordered = grind arith

-- a walk goes from another slot to the next place
pub hop_none : {V : Type 0} (index : ℕ) (s : Slot V) → back_in s ≡ None → hop_in index s ≡ index
hop_none index s none = grind arith

pub none_here : {V : Type 0} (s : Slot V) → is_some (value_in s) ≡ false → value_in s ≡ None
none_here s is = grind arith

module _ {V : Type 0} (slots : List (Slot V)) (reads0 start : ℕ) where
  -- a search for the first live slot that began at `start`, with this number of reads, has come to a place: it passed no live
  -- key
  pub record OnTheWay (reads index : ℕ) : Type 0 where
    pub stands : StandsAt slots index
    pub same : pairs_left slots start ≡ pairs_left slots index
    pub none : (q : Key) → map.contains_key (live (places_of slots)) q ≡ true → start ≤ q.index → index ≤ q.index
    -- the retired places on the way
    pub gone : List Key
    pub still : retired_left slots start ≡ gone ++ retired_left slots index
    pub below : All (λ k. k.index < index) gone
    pub few_vacant : vacant_at (all_links slots) index ≡ true → reads ≤ reads0 + 2 * length gone
    pub few : reads ≤ reads0 + 2 * length gone + 1
    pub passed : reads + start ≤ reads0 + index
    pub begun : reads0 ≤ reads
    pub before : reads0 ≤ start

  pub way_begins : CanGoOn slots reads0 start → OnTheWay reads0 start
  way_begins can = grind arith

  module _ {reads index : ℕ} (way : OnTheWay reads index) where
    -- after all places nothing is left
    pub way_ends : length slots ≤ index → FindsNone slots start
    way_ends past = grind (arith, drop_all, length-places, live_at, slice_get_within)

    -- what is left lies ahead
    way_inside : 0 < length (pairs_left slots start) → index < length slots
    way_inside some = grind (arith, λ (past : length slots ≤ index). ap length (way_ends past).none)

    way_room : index < length slots → reads + 1 < 2 ^ 64
    way_room inside = omega (arith, inside, way.passed, way.before, slots_fit slots _ _ way.stands.sound)

  -- a block that begins at a place is skipped in one step
  pub record Hops (reads index back : ℕ) : Type 0 where
    pub on : OnTheWay reads (back + 1)
    pub within : back < length slots
    pub onward : index ≤ back

  -- a search that has come to this place reads the slot there
  module _ {reads index : ℕ} {s : Slot V} (way : OnTheWay reads index) (found : slice_get slots index ≡ Some s) where
    way_hops : is_vacant (links_in s) ≡ true → Hops (reads + 1) index (hop_in index s)
    way_hops vacant =
        let v = vacant_at (all_links slots) in
        let free : (v index ≡ true) × (links_at (all_links slots) index ≡ links_in s) = grind (arith, slot_cases slots index, found) in
        let back = end_at (all_links slots) index in
        let block : IsBlock v index back = block_here slots index way.stands free.0 in
        let apart = rw free.1 at (way.stands.sound.linked.linked.apart index) in
        let is_back : hop_in index s ≡ back = hop_to_back index s vacant apart (rw free.1 at block.ordered) ∙ ap (end_in index) (sym free.1) in
        let past = past_block slots index back block in
        let few = way.few_vacant free.0 in
        rw is_back (record {
          on = record {
            stands = stands_on slots index (back + 1) way.stands (λ again. clash v (back + 1) again block.ends);
            same = way.same ∙ past.0;
            none = λ q there from. (let live = live_at (places_of slots) q there in grind (arith, way.none q there from, block.inside q.index, slot_cases slots q.index));
            gone = way.gone;
            still = way.still ∙ ap (λ ks. way.gone ++ ks) past.1;
            below = All-weaker (λ k. k.index < index) (λ k. k.index < back + 1) (λ k low. omega (arith, block.ordered)) way.gone way.below;
            few_vacant = λ again. clash v (back + 1) again block.ends;
            few = omega (arith, few);
            passed = omega (arith, way.passed, block.ordered);
            begun = omega (arith, way.begun);
            before = way.before;
          };
          within = slot_within slots back (block.inside back block.ordered (omega arith));
          onward = block.ordered;
        })

    here : (slice_get (places_of slots) index ≡ Some (place_in s)) × HasVersion (place_in s) × ((v : ℕ) → place_in s ≢ Detached v)
    here = let is = place_at slots index s found in (is, way.stands.sound.stacked.versions index _ is, λ v e. way.stands.sound.none_detached index v (is ∙ ap Some e))

    -- a retired slot is passed
    way_passes : (version unused nowhere : ℕ) → s ≡ Empty Retired version unused nowhere → Hops (reads + 1) index index
    way_passes version unused nowhere is =
        let spent : slice_get (places_of slots) index ≡ Some RetiredPlace = grind (arith, here, is) in
        let more = length-append way.gone (key index last_version ∷ []) in
        record {
          on = record {
            stands = stands_on slots index (index + 1) way.stands (λ _. begins_after (vacant_at (all_links slots)) index (place_not_vacant slots index RetiredPlace spent (λ n e. absurd (cc))));
            same = way.same ∙ left-on slots pairs_from index RetiredPlace spent;
            none = λ q there from. (let live = live_at (places_of slots) q there in grind (arith, way.none q there from));
            gone = way.gone ++ key index last_version ∷ [];
            still = way.still ∙ ap (λ ks. way.gone ++ ks) (left-on slots retired_from index RetiredPlace spent)
                ∙ sym (append_assoc way.gone (key index last_version ∷ []) (retired_left slots (index + 1)));
            below =
                All-push (λ k. k.index < index + 1) way.gone (key index last_version)
                (All-weaker (λ k. k.index < index) (λ k. k.index < index + 1) (λ k low. omega arith) way.gone way.below) (omega arith);
            few_vacant = λ vacant. omega (arith, way.few, more);
            few = omega (arith, way.few, more);
            passed = omega (arith, way.passed);
            begun = omega (arith, way.begun);
            before = way.before;
          };
          within = omega (arith, slice_get_within slots index s found);
          onward = omega arith;
        }

    pub way_on : value_in s ≡ None → Hops (reads + 1) index (hop_in index s)
    way_on none = by s refl none
      where
        by : (t : Slot V) → s ≡ t → value_in t ≡ None → Hops (reads + 1) index (hop_in index s)
        by (Occupied state version value) is none = absurd (cc)
        by (Empty SingleState version next prev) is none = way_hops (ap (λ t. is_vacant (links_in t)) is)
        by (Empty FrontState version next back) is none = way_hops (ap (λ t. is_vacant (links_in t)) is)
        by (Empty BackState version front prev) is none = way_hops (ap (λ t. is_vacant (links_in t)) is)
        by (Empty Retired version unused nowhere) is none = rw is (way_passes version unused nowhere is)

    -- a slot with a value is what the search looks for
    pub way_finds : is_some (value_in s) ≡ true → FindsSlot slots start index × ReadsOnTheWay slots reads0 start (reads + 1) index
    way_finds live =
        let slot : (state : State) × (version : ℕ) × (x : V) × (s ≡ Occupied state version x) = occupied s live in
        let version = slot.1 in
        let x = slot.2 in
        let is = slot.3 in
        let live_there = here.0 ∙ ap (λ slot. Some (place_in slot)) is in
        let gone = way.still ∙ ap (λ ks. way.gone ++ ks) (left-on slots retired_from index (Live version x) live_there) in (
          record {
            state = slot.0;
            version = version;
            value = x;
            is = found ∙ ap Some is;
            finds = record { there = live_there; first = way.same ∙ left-on slots pairs_from index (Live version x) live_there; least = way.none };
          },
          record {
            gone = way.gone;
            still = gone;
            before = way.below;
            after = above index (index + 1) (drop (index + 1) (places_of slots)) (omega arith);
            some = omega (arith, way.begun);
            few = omega (arith, way.few, ap length gone, length-append way.gone (retired_left slots (index + 1)));
            passed = omega (arith, way.passed);
          },
        )

  -- a walk from there is now at a place
  pub record IsAt (now : Counted V) : Type 0 where
    pub kept : now.slots ≡ slots
    pub way : OnTheWay now.reads now.index

  module _ {now : Counted V} (at : IsAt now) where
    pub may_read : 0 < length (pairs_left slots start) → (now.index < length now.slots) × (now.reads + 1 < 2 ^ 64)
    may_read some = let inside = way_inside at.way some in (rw at.kept inside, way_room at.way inside)

    module _ {new : Counted V} {s : Slot V} (read : IsRead now s new) where
      pub finds_here : is_some (value_in s) ≡ true
          → FindsSlot slots start new.index × (new.slots ≡ slots) × ReadsOnTheWay slots reads0 start new.reads new.index
      finds_here live = let finds = way_finds at.way (rw at.kept at read.value) live in rw (read.index, read.reads) (finds.0, read.slots ∙ at.kept, finds.1)

      leaves : value_in s ≡ None → Hops new.reads now.index (hop_in now.index s)
      leaves none = rw read.reads (way_on at.way (rw at.kept at read.value) none)

      pub may_leave : value_in s ≡ None → hop_in new.index s < length new.slots
      may_leave none = rw (read.index, read.slots, at.kept) (leaves none).within

      pub goes_onward : value_in s ≡ None → now.index ≤ hop_in new.index s
      goes_onward none = rw read.index (leaves none).onward

      -- such a slot is left
      pub left_here : value_in s ≡ None → {next : Counted V} → GoesTo new (hop_in new.index s + 1) next → IsAt next
      left_here none {next} goes = grind (arith, leaves)
