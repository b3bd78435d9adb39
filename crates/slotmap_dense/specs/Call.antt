-- What the calls of a dense map guarantee, whatever they return.
use Rattle.std.specs.FinMap as map
use Rattle.std.specs.Prelude.{◌≡◌, ◌+◌, ◌<◌, ◌≤◌, ℕ}
use Rattle.slotmap_core.specs.Words.{used, most, Keeps}
use Rattle.slotmap_dense.specs.Dense.{Dense, IsDense, SameOrder}

module _ {V : Type 0} where
  -- a call that needs no memory: the map was and is well formed, and its capacity stays
  pub record StaysDense (old new : Dense V) : Type 0 where
    pub before : IsDense old
    pub after : IsDense new
    pub capacity : new.content.capacity ≡ old.content.capacity

  -- A call that may allocate room for one more key: the map was and is well formed, and no capacity is lost. If there is room
  -- already, the capacity stays. If the call fails, the map holds what it held, in the same order
  pub record GrowsDense (old : Dense V) (refused : Type 0) (new : Dense V) : Type 0 where
    pub before : IsDense old
    pub after : IsDense new
    pub capacity : old.content.capacity ≤ new.content.capacity
    pub in_place : 0 < old.content.room → new.content.capacity ≡ old.content.capacity
    pub unchanged : refused → Keeps old.content new.content
    pub same_order : refused → SameOrder old new

  -- a call that reserves room for n more keys, where `ok` says that it succeeds
  pub record MakesDenseRoom (old : Dense V) (n : ℕ) (ok : Type 0) (new : Dense V) : Type 0 where
    pub before : IsDense old
    pub after : IsDense new
    -- n more keys fit then, within the limit and in the memory that there is: none of their inserts can fail
    pub fits : ok → used old.content + n ≤ most
    pub room : ok → n ≤ new.content.room
    pub live_and_more : ok → map.len old.content.live + n ≤ new.content.capacity
    -- if there is room for them already, it succeeds and changes nothing
    pub succeeds : n ≤ old.content.room → ok
    pub had_room : n ≤ old.content.room → new ≡ old
    -- the map holds what it held, in the same order
    pub keeps : Keeps old.content new.content
    pub same_order : SameOrder old new
    pub capacity : old.content.capacity ≤ new.content.capacity
