-- What calls return: the numbers that `slotmap.h` names.
use Rattle.std.specs.Prelude.{ℕ}

-- the call did what it is for
abbrev pub ok : ℕ
ok = 0

-- so many keys are over the limit
abbrev pub full_map : ℕ
full_map = 1

-- memory ran out
abbrev pub no_memory : ℕ
no_memory = 2

-- the handle is closed
abbrev pub closed : ℕ
closed = 3

-- the handle is open already
abbrev pub opened : ℕ
opened = 4

-- the key isn't live
abbrev pub not_live : ℕ
not_live = 5

-- the key isn't detached
abbrev pub not_detached : ℕ
not_detached = 6

-- no live key comes later
abbrev pub no_more : ℕ
no_more = 7

-- the key is null, or older than the one at its index
abbrev pub no_entry_found : ℕ
no_entry_found = 8
