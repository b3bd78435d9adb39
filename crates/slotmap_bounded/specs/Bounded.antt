-- A content that promises as much room as was asked for.
use Rattle.std.specs.Prelude.{◌≡◌, ℕ, ◌+◌, ◌-◌, ◌≤◌, true, cond, max, min, nat_lt}
use Rattle.std.specs.FinMap as map
use Rattle.slotmap.specs.Words.{Content, IsContent, most, used}

-- how many more keys are promised where room for n is asked for: as many as there are, and four at least, if that is more, within the limit
abbrev pub grown : ℕ → ℕ → ℕ
grown used n = max n (min (max used 4) (most - used))

module _ {V : Type 0} where
  -- the greatest index that a key can have before more room is made: what is used, and the room
  abbrev pub bound : Content V → ℕ
  bound c = used c + c.room

  -- the bound, and for how many keys there is memory: where both stay, no vector has grown
  abbrev pub space : Content V → ℕ × ℕ
  space c = (bound c, c.capacity)

  -- the same content with another room
  abbrev pub bounded : Content V → ℕ → Content V
  bounded c room = record c { room = room }

  -- there is so much room, also where a slot is vacant, and this is the bound
  pub record IsBounded (c : Content V) (room most_keys : ℕ) : Type 0 where
    pub valid : IsContent true c
    pub vacant : map.len c.next ≤ room
    pub fits : room ≤ c.room
    pub exact : used c + room ≡ most_keys

  -- the bound once there is room for n more keys
  abbrev pub bound_with : Content V → ℕ → ℕ
  bound_with c n = cond (nat_lt c.room n) (used c + grown (used c) n) (bound c)
