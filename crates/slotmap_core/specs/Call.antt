-- What each call of a map guarantees, whatever it returns.
use Rattle.std.specs.Prelude.{◌≡◌, ℕ, ◌+◌, ◌<◌, ◌≤◌, Bool}
use Rattle.std.specs.FinMap as map
use Rattle.slotmap_core.specs.Content.{Content, IsContent, used, most}
use Rattle.slotmap_core.specs.Transition.{Keeps}

module _ {V : Type 0} where
  -- a call that needs no memory: the map was and is well formed, and its capacity stays
  pub record StaysValid (reuses : Bool) (old new : Content V) : Type 0 where
    pub before : IsContent reuses old
    pub after : IsContent reuses new
    pub capacity : new.capacity ≡ old.capacity

  -- A call that may allocate room for one more key: the map was and is well formed, and no capacity is lost. If there is room
  -- already, the capacity stays. If the call fails, the map holds what it held
  pub record MayGrow (reuses : Bool) (old : Content V) (refused : Type 0) (new : Content V) : Type 0 where
    pub before : IsContent reuses old
    pub after : IsContent reuses new
    pub capacity : old.capacity ≤ new.capacity
    pub in_place : 0 < old.room → new.capacity ≡ old.capacity
    pub unchanged : refused → Keeps old new

  -- a call that reserves room for n more keys; `ok` says that it succeeds
  pub record MakesRoom (reuses : Bool) (old : Content V) (n : ℕ) (ok : Type 0) (new : Content V) : Type 0 where
    pub before : IsContent reuses old
    pub after : IsContent reuses new
    -- n more keys fit then, within the limit and in the memory that there is: none of their inserts can fail
    pub fits : ok → used old + n ≤ most
    pub room : ok → n ≤ new.room
    pub live_and_more : ok → map.len old.live + n ≤ new.capacity
    -- if there is room for them already, the call succeeds and changes nothing
    pub succeeds : n ≤ old.room → ok
    pub had_room : n ≤ old.room → new ≡ old
    -- the map holds what it held
    pub keeps : Keeps old new
    pub capacity : old.capacity ≤ new.capacity
