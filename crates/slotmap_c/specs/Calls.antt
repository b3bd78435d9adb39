-- What each call for C says by its status, and by what it writes. `was` is what stood at an `out` before, `now` what stands there
-- after it; `old` is the map of the handle before, `new` the map after.
use Rattle.std.specs.Prelude.{◌≡◌, ℕ, ◌+◌, ◌/◌, ◌%◌, ◌^◌, ◌<◌, ◌≤◌, Bool, true, false, nat_le, Option, Some, None, List, [], take, drop, length, ◌⊎◌}
use Rattle.std.specs.FinMap as map
use Rattle.slotmap_core.specs.Words.{Content, Key, key_cmp, IsKey, IsLive, IsDetached, IsNew, Inserts, Reattaches, Keeps, IsCopy, LacksRoom, ffi, key_from, used, most}
use Rattle.slotmap_c.specs.Status.{ok, full_map, no_memory, closed, opened, not_live, not_detached, no_more}

-- the key that a number stands for
abbrev pub key_of : ℕ → Key
key_of n = key_from (n % 2 ^ 32) (n / 2 ^ 32)

module _ {V : Type 0} where
  -- a closed handle is opened with a map, or memory ran out
  abbrev pub OpensWith : (made old : Content V) (status : ℕ) (is_open : Bool) (new : Content V) → Type 0
  OpensWith made old status is_open new =
      ((status ≡ ok) × (is_open ≡ true) × (new ≡ made))
      ⊎ ((status ≡ no_memory) × (is_open ≡ false) × (new ≡ old))

  -- a new map, if the handle was closed
  abbrev pub NewSays : (was_open : Bool) (old : Content V) (status : ℕ) (is_open : Bool) (new : Content V) → Type 0
  NewSays was_open old status is_open new =
      ((status ≡ ok) × (was_open ≡ false) × (is_open ≡ true) × IsNew new × (new.stack ≡ Some []))
      ⊎ ((status ≡ no_memory) × (was_open ≡ false) × (is_open ≡ false) × (new ≡ old))
      ⊎ ((status ≡ opened) × (was_open ≡ true) × (is_open ≡ true) × (new ≡ old))

  -- a copy, if the one handle was open and the other closed
  abbrev pub CloneSays : (source_open : Bool) (source : Content V) (was_open : Bool) (old : Content V) (status : ℕ) (is_open : Bool) (new : Content V) → Type 0
  CloneSays source_open source was_open old status is_open new =
      ((status ≡ ok) × (source_open ≡ true) × (was_open ≡ false) × (is_open ≡ true) × IsCopy source new)
      ⊎ ((status ≡ no_memory) × (source_open ≡ true) × (was_open ≡ false) × (is_open ≡ false) × (new ≡ old))
      ⊎ ((status ≡ closed) × (source_open ≡ false) × (is_open ≡ was_open) × (new ≡ old))
      ⊎ ((status ≡ opened) × (source_open ≡ true) × (was_open ≡ true) × (is_open ≡ true) × (new ≡ old))

  -- room for more keys, if the handle was open
  abbrev pub ReserveSays : (was_open : Bool) (old : Content V) (additional status : ℕ) (new : Content V) → Type 0
  ReserveSays was_open old additional status new =
      ((status ≡ ok) × (was_open ≡ true) × (additional ≤ new.room))
      ⊎ ((status ≡ full_map) × (was_open ≡ true) × (most < used old + additional))
      ⊎ ((status ≡ no_memory) × (was_open ≡ true) × (used old + additional ≤ most))
      ⊎ ((status ≡ closed) × (was_open ≡ false))

  -- the number of a new key that is bound to the value, if the handle was open
  abbrev pub InsertSays : (was_open : Bool) (old : Content V) (value : V) (status was now : ℕ) (new : Content V) → Type 0
  InsertSays was_open old value status was now new =
      ((status ≡ ok) × (was_open ≡ true) × ((k : Key) × IsKey k × (now ≡ ffi k) × Inserts old k value new))
      ⊎ ((status ≡ full_map) × (was_open ≡ true) × (used old ≡ most) × (now ≡ was) × Keeps old new)
      ⊎ ((status ≡ no_memory) × (was_open ≡ true) × LacksRoom old × (now ≡ was) × Keeps old new)
      ⊎ ((status ≡ closed) × (was_open ≡ false) × (now ≡ was) × (new ≡ old))

  -- the detached key is bound to the value again
  abbrev pub ReattachSays : (old : Content V) (k : Key) (value : V) (status : ℕ) (new : Content V) → Type 0
  ReattachSays old k value status new =
      ((status ≡ ok) × Reattaches old k value new)
      ⊎ ((status ≡ not_detached) × ¬ (IsDetached old k) × (new ≡ old))

  -- k is the live key with the least index above i
  pub record IsNextAfter (c : Content V) (i : ℕ) (k : Key) : Type 0 where
    pub live : IsLive c k
    pub after : i < k.index
    pub first : (other : Key) → IsLive c other → i < other.index → k.index ≤ other.index

  -- the next live key after an index
  abbrev pub NextKeySays : (c : Content V) (i status was now : ℕ) → Type 0
  NextKeySays c i status was now =
      ((status ≡ ok) × ((k : Key) × IsNextAfter c i k × (now ≡ ffi k)))
      ⊎ ((status ≡ no_more) × ((other : Key) → IsLive c other → other.index ≤ i) × (now ≡ was))

  -- the keys of an index above i, with their values
  abbrev pub above : ℕ → map.FinMap key_cmp V → map.FinMap key_cmp V
  above i m = map.retain_keys m (λ k. nat_le (i + 1) k.index)

-- the next live key after an index, and its value
abbrev pub NextSays : (c : Content ℕ) (i status key_was key_now value_was value_now : ℕ) → Type 0
NextSays c i status key_was key_now value_was value_now =
    ((status ≡ ok) × ((k : Key) × IsNextAfter c i k × (key_now ≡ ffi k) × (map.get c.live k ≡ Some value_now)))
    ⊎ ((status ≡ no_more) × ((other : Key) → IsLive c other → other.index ≤ i) × (key_now ≡ key_was) × (value_now ≡ value_was))

-- the value that was found, if there is one
abbrev pub FindSays : (found : Option ℕ) (status was now : ℕ) → Type 0
FindSays found status was now =
    ((status ≡ ok) × (found ≡ Some now))
    ⊎ ((status ≡ not_live) × (found ≡ None) × (now ≡ was))

-- whether the key was live before the call
abbrev pub DeleteSays : (was_live : Bool) (status : ℕ) → Type 0
DeleteSays was_live status =
    ((status ≡ ok) × (was_live ≡ true))
    ⊎ ((status ≡ not_live) × (was_live ≡ false))

-- the first n of these stand at the head of the array, and the rest of it is as it was
pub record ListsFirst (n : ℕ) (from was now : List ℕ) : Type 0 where
  pub first : take n now ≡ take n from
  pub rest : drop n now ≡ drop n was
  pub length : length now ≡ length was
