-- How a dense slot map stores its pairs: a map from each live key to its position, and two vectors. No public clause cites
-- this module.
use Rattle.std.specs.FinMap as map
use Rattle.std.specs.Prelude.{◌≡◌, ◌≢◌, ◌+◌, ◌-◌, ◌<◌, ℕ, min, true, List, length, Option, None, Some, slice_get, zip}
use Rattle.slotmap_core.specs.Words.{Key, key_cmp, Content, IsContent}
use Rattle.slotmap_core.specs.declared.serial.SlotRecord.{SlotRecord}
use Rattle.slotmap_dense.specs.Dense.{Dense}

-- each live key is in the list at its position, and the list has no other keys
pub record IsPacked (positions : map.FinMap key_cmp ℕ) (keys : List Key) : Type 0 where
  pub counted : length keys ≡ map.len positions
  pub names : (i : ℕ) (k : Key) → slice_get keys i ≡ Some k → map.get positions k ≡ Some i
  pub stands : (k : Key) (i : ℕ) → map.get positions k ≡ Some i → slice_get keys i ≡ Some k

-- the same except at position i, whose key no longer has a position
pub record IsGapped (positions : map.FinMap key_cmp ℕ) (keys : List Key) (i : ℕ) : Type 0 where
  pub counted : length keys ≡ map.len positions + 1
  pub inside : i < length keys
  pub names : (j : ℕ) (k : Key) → j ≢ i → slice_get keys j ≡ Some k → map.get positions k ≡ Some j
  pub stands : (k : Key) (j : ℕ) → map.get positions k ≡ Some j → (j ≢ i) × (slice_get keys j ≡ Some k)

module _ {V : Type 0} where
  -- a content with these live keys, and otherwise with the keys and places of another
  abbrev pub over : Content ℕ → map.FinMap key_cmp V → ℕ → ℕ → Content V
  over slots live room capacity =
      record {
        live = live;
        detached = slots.detached;
        retired = slots.retired;
        next = slots.next;
        offer = slots.offer;
        stack = slots.stack;
        room = room;
        capacity = capacity;
      }

  abbrev pub live_of : List Key → List V → map.FinMap key_cmp V
  live_of keys values = map.from_entries (zip keys values)

  -- the model of the map, whose vectors have memory for `spare` elements
  abbrev pub dense_of : Content ℕ → List Key → List V → ℕ → Dense V
  dense_of slots keys values spare =
      record {
        content = over slots (live_of keys values) (min slots.room (spare - length keys)) (min slots.capacity spare);
        keys = keys;
        values = values;
      }

  pub record IsSound (slots : Content ℕ) (keys : List Key) (values : List V) : Type 0 where
    pub well : IsContent true slots
    pub packed : IsPacked slots.live keys
    pub same_length : length values ≡ length keys

  -- the value at the position that was looked up
  abbrev pub at_position : List V → Option ℕ → Option V
  at_position values None = None
  at_position values (Some i) = slice_get values i

  -- the record of a slot, with the value at its position
  abbrev pub with_packed_value : List V → SlotRecord ℕ → SlotRecord V
  with_packed_value values r = record { value = at_position values r.value; version = r.version }
