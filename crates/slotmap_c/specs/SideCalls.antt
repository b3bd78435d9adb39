-- What each call of a side table says by its status. `old` is the table of the handle before, `new` the table after.
use Rattle.std.specs.Prelude.{◌≡◌, ℕ, ◌<◌, ◌≤◌, Bool, true, false, Option, Some, None, ◌⊎◌}
use Rattle.std.specs.FinMap as map
use Rattle.slotmap_core.specs.Words.{Key, ffi, most, bind, entry, has_entry, vacant}
use Rattle.slotmap_secondary.specs.Content.{SideContent, Reaches}
use Rattle.slotmap_c.specs.Status.{ok, full_map, no_memory, closed, opened, no_entry_found}

-- a closed handle is opened with a table, or memory ran out
abbrev pub SideOpensWith : (made old : SideContent ℕ) (status : ℕ) (is_open : Bool) (new : SideContent ℕ) → Type 0
SideOpensWith made old status is_open new =
    ((status ≡ ok) × (is_open ≡ true) × (new ≡ made))
    ⊎ ((status ≡ no_memory) × (is_open ≡ false) × (new ≡ old))

-- a new table, if the handle was closed
abbrev pub SideNewSays : (was_open : Bool) (old : SideContent ℕ) (status : ℕ) (is_open : Bool) (new : SideContent ℕ) → Type 0
SideNewSays was_open old status is_open new =
    ((status ≡ ok) × (was_open ≡ false) × (is_open ≡ true) × (new.pairs ≡ map.empty))
    ⊎ ((status ≡ no_memory) × (was_open ≡ false) × (is_open ≡ false) × (new ≡ old))
    ⊎ ((status ≡ opened) × (was_open ≡ true) × (is_open ≡ true) × (new ≡ old))

-- a copy, if the one handle was open and the other closed
abbrev pub SideCloneSays : (source_open : Bool) (source : SideContent ℕ) (was_open : Bool) (old : SideContent ℕ) (status : ℕ)
    (is_open : Bool) (new : SideContent ℕ) → Type 0
SideCloneSays source_open source was_open old status is_open new =
    ((status ≡ ok) × (source_open ≡ true) × (was_open ≡ false) × (is_open ≡ true) × (new ≡ record source { capacity = new.capacity }))
    ⊎ ((status ≡ no_memory) × (source_open ≡ true) × (was_open ≡ false) × (is_open ≡ false) × (new ≡ old))
    ⊎ ((status ≡ closed) × (source_open ≡ false) × (is_open ≡ was_open) × (new ≡ old))
    ⊎ ((status ≡ opened) × (source_open ≡ true) × (was_open ≡ true) × (is_open ≡ true) × (new ≡ old))

-- memory for each index up to n, if the handle was open
abbrev pub SideReserveSays : (was_open : Bool) (old : SideContent ℕ) (n status : ℕ) (new : SideContent ℕ) → Type 0
SideReserveSays was_open old n status new =
    ((status ≡ ok) × (was_open ≡ true) × (n ≤ new.capacity))
    ⊎ ((status ≡ full_map) × (was_open ≡ true) × (most < n))
    ⊎ ((status ≡ no_memory) × (was_open ≡ true) × (n ≤ most))
    ⊎ ((status ≡ closed) × (was_open ≡ false))

-- the value under the key, if the key has an entry
abbrev pub PutSays : (old : SideContent ℕ) (k : Key) (value status : ℕ) (new : SideContent ℕ) → Type 0
PutSays old k value status new =
    ((status ≡ ok) × (has_entry (entry old.pairs k) ≡ true) × (new.pairs ≡ bind old.pairs k value) × Reaches old k new)
    ⊎ ((status ≡ no_entry_found) × (has_entry (entry old.pairs k) ≡ false) × (new.pairs ≡ old.pairs) × Reaches old k new)
    ⊎ ((status ≡ no_memory) × (entry old.pairs k ≡ vacant) × (new ≡ old))

-- the same, if the handle was open
abbrev pub SidePutSays : (was_open : Bool) (old : SideContent ℕ) (k : Key) (value status : ℕ) (new : SideContent ℕ) → Type 0
SidePutSays was_open old k value status new =
    ((was_open ≡ true) × PutSays old k value status new)
    ⊎ ((status ≡ closed) × (was_open ≡ false) × (new ≡ old))

-- a version at the index i and its value, as the number of the key and the value
abbrev pub numbered : (i : ℕ) → Option (ℕ × ℕ) → Option (ℕ × ℕ)
numbered i (Some p) = Some (ffi (record { index = i; version = p.0 }), p.1)
numbered i None = None

-- the number of a key and its value are written, or 0 if there is none
abbrev pub WritesPair : Option (ℕ × ℕ) → (key_now value_was value_now : ℕ) → Type 0
WritesPair (Some p) key_now value_was value_now = (key_now ≡ p.0) × (value_now ≡ p.1)
WritesPair None key_now value_was value_now = (key_now ≡ 0) × (value_now ≡ value_was)
