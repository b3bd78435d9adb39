-- What contracts see of an iterator that skips vacant places.
use Rattle.std.specs.FinMap as map
use Rattle.std.specs.FinSet as set
use Rattle.std.specs.Prelude.{◌≡◌, ◌+◌, ◌*◌, ◌<◌, ◌≤◌, ◌∷◌, ◌++◌, ℕ, List, [], length, drop, true, Option, None, Some, slice_get, All}
use Rattle.slotmap_core.specs.Words.{Key, gather, ListsByIndex, Live, live, live_entry, retired_entry}
use Rattle.slotmap_hop.specs.Slots.{Slot, State, Occupied, all_links, places_of, IsSound}
use Rattle.slotmap_hop.specs.{Blocks.Begins, HopContent.HopContent, Links.vacant_at}

-- The items that an iterator has yet to yield, and the keys of the retired places that it has yet to pass, both by ascending
-- index. And the number of slots that it has read
pub record HopIter (A : Type 0) : Type 0 where
  pub rest : List A
  pub retired : List Key
  pub reads : ℕ

-- the list has each retired key once, and nothing else
pub record ListsRetired {V : Type 0} (m : HopContent V) (keys : List Key) : Type 0 where
  pub all : set.from_list keys ≡ m.content.retired
  pub once : length keys ≡ set.len m.content.retired

-- an iterator over the live keys and their values, before its first step
pub record StartsIter {V : Type 0} (m : HopContent V) (it : HopIter (Key × V)) : Type 0 where
  pub lists : ListsByIndex m.content.live it.rest
  pub retired : ListsRetired m it.retired
  pub reads : it.reads ≡ 0

-- a place among slots, and how often one of them was read
pub record Counted (V : Type 0) : Type 0 where
  pub slots : List (Slot V)
  pub index : ℕ
  pub reads : ℕ

-- the slot at a place is read
pub record IsRead {V : Type 0} (old : Counted V) (slot : Slot V) (new : Counted V) : Type 0 where
  pub value : slice_get old.slots old.index ≡ Some slot
  pub slots : new.slots ≡ old.slots
  pub index : new.index ≡ old.index
  pub reads : new.reads ≡ old.reads + 1

-- another place follows
pub record GoesTo {V : Type 0} (old : Counted V) (to : ℕ) (new : Counted V) : Type 0 where
  pub slots : new.slots ≡ old.slots
  pub index : new.index ≡ to
  pub reads : new.reads ≡ old.reads

-- a step that yields the item of this index reads one or two slots, and at most two more for each retired place that it passes
pub record ReadsFew {A : Type 0} (index : ℕ) (old new : HopIter A) : Type 0 where
  pub some : old.reads + 1 ≤ new.reads
  pub few : new.reads + 2 * length new.retired ≤ old.reads + 2 * length old.retired + 2
  -- the retired places that it passes: those below the index
  pub passed : List Key
  pub still : old.retired ≡ passed ++ new.retired
  pub before : All (λ k. k.index < index) passed
  pub after : All (λ k. index < k.index) new.retired

-- what a step does to the number of reads, where an item has this key; a step at the end changes nothing
abbrev pub CountsReads : {A I : Type 0} → (I → Key) → HopIter A → Option I → HopIter A → Type 0
CountsReads key_of old None new = new ≡ old
CountsReads key_of old (Some item) new = ReadsFew (key_of item).index old new

-- the same where an item doesn't tell its index
abbrev pub CountsReadsSomewhere : {A I : Type 0} → HopIter A → Option I → HopIter A → Type 0
CountsReadsSomewhere old None new = new ≡ old
CountsReadsSomewhere old (Some item) new = (index : ℕ) × ReadsFew index old new

module _ {V : Type 0} where
  -- the live keys and their values from a place on
  abbrev pub pairs_left : List (Slot V) → ℕ → List (Key × V)
  pairs_left slots i = gather [] (λ es e. e ∷ es) live_entry i (drop i (places_of slots))

  -- the keys of the retired places from a place on
  abbrev pub retired_left : List (Slot V) → ℕ → List Key
  retired_left slots i = gather [] (λ ks e. e.0 ∷ ks) retired_entry i (drop i (places_of slots))

  -- the slots are sound; the place is in use, at the front of a block, or after the last one
  pub record StandsAt (slots : List (Slot V)) (index : ℕ) : Type 0 where
    pub vacant : ℕ
    pub elems : ℕ
    pub sound : IsSound slots vacant elems
    pub at_front : vacant_at (all_links slots) index ≡ true → Begins (vacant_at (all_links slots)) index

  -- a well formed iterator at this place: it has read no more slots than it has passed
  pub record IsIter (slots : List (Slot V)) (reads index left : ℕ) : Type 0 where
    pub stands : StandsAt slots index
    pub counted : left ≡ length (pairs_left slots index)
    pub passed : reads ≤ index

  -- the search for the next live slot may go on from this place
  pub record CanGoOn (slots : List (Slot V)) (reads index : ℕ) : Type 0 where
    pub stands : StandsAt slots index
    pub passed : reads ≤ index

  -- there is no live slot from this place on
  pub record FindsNone (slots : List (Slot V)) (index : ℕ) : Type 0 where
    pub none : pairs_left slots index ≡ []
    pub below : (k : Key) → map.contains_key (live (places_of slots)) k ≡ true → k.index < index

  -- the first live slot from `index` on is `found`, with this version and value
  pub record FindsLive (slots : List (Slot V)) (index found version : ℕ) (value : V) : Type 0 where
    pub there : slice_get (places_of slots) found ≡ Some (Live version value)
    pub first : pairs_left slots index ≡ (record { index = found; version = version }, value) ∷ pairs_left slots (found + 1)
    pub least : (k : Key) → map.contains_key (live (places_of slots)) k ≡ true → index ≤ k.index → found ≤ k.index

  -- the first live slot from `index` on is `found`
  pub record FindsSlot (slots : List (Slot V)) (index found : ℕ) : Type 0 where
    pub state : State
    pub version : ℕ
    pub value : V
    pub is : slice_get slots found ≡ Some (Occupied state version value)
    pub finds : FindsLive slots index found version value

  -- the first live slot from `index` on is `found`
  abbrev pub FindsPlace : List (Slot V) → ℕ → ℕ → Type 0
  FindsPlace slots index found = (index ≤ found) × (version : ℕ) × (value : V) × FindsLive slots index found version value

  -- a step to the next live key, whose slot is this one
  pub record StepsOn (old new : HopIter (Key × V)) (key : Key) (slot : Slot V) : Type 0 where
    pub state : State
    pub version : ℕ
    pub value : V
    pub is : slot ≡ Occupied state version value
    pub rest : old.rest ≡ (key, value) ∷ new.rest
    pub reads : ReadsFew key.index old new

  -- the number of reads on the way from one place to the live slot that was found
  pub record ReadsOnTheWay (slots : List (Slot V)) (reads index reads' found : ℕ) : Type 0 where
    -- the retired places on the way
    pub gone : List Key
    pub still : retired_left slots index ≡ gone ++ retired_left slots (found + 1)
    pub before : All (λ k. k.index < found) gone
    pub after : All (λ k. found < k.index) (retired_left slots (found + 1))
    pub some : reads + 1 ≤ reads'
    pub few : reads' + 2 * length (retired_left slots (found + 1)) ≤ reads + 2 * length (retired_left slots index) + 2
    pub passed : reads' + index ≤ reads + found + 1
