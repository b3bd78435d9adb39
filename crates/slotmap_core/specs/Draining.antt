-- What the steps of a drain promise, whatever map the drain takes its pairs from.
use Rattle.std.specs.Prelude.{◌≡◌, ◌++◌, List, map as list_map, Option}
use Rattle.std.specs.Borrow.{MutBor}
use Rattle.std.specs.Iterator.{Count, at_most, Yields}
use Rattle.std.specs.FinMap as map
use Rattle.slotmap_core.specs.Key.{Key, key_cmp}
use Rattle.slotmap_core.specs.Listing.{IsListingBut}

-- Old and new hold the same loan of a map: its final value, as new sees it, is also its final value as old sees it
module _ {D C E : Type 0} (loan : D → MutBor C) (Ends : C → E → Type 0) where
  abbrev pub KeepsLoan : D → D → Type 0
  KeepsLoan old new = ((loan new).ghost_name ≡ (loan old).ghost_name) × ((end : E) → Ends (loan new).now end → Ends (loan old).now end)

module _ {D A : Type 0} (Steps : D → Option A → D → Type 0) where
  -- R holds of the first state, the items that calls of `next` yield from there, and the state after them
  abbrev pub Along : (D → List A → D → Type 0) → D → Type 0
  Along R first = (items : List A) (later : D) → Yields Steps first items later → R first items later

  -- each state after calls of `next` keeps what the first one keeps
  abbrev pub KeepsAlong : (D → D → Type 0) → D → Type 0
  KeepsAlong Keeps = Along (λ first items later. Keeps first later)

-- the number of pairs that are left
module _ {D V : Type 0} (live : D → map.FinMap key_cmp V) where
  abbrev pub drain_count : D → Count
  drain_count d = at_most (map.len (live d))

module _ {D K V : Type 0} (data_of : K → Key) (live : D → map.FinMap key_cmp V) (Steps : D → Option (K × V) → D → Type 0) where
  -- the pairs that calls of `next` yield, and those that the map still holds then, are those that it held
  abbrev pub ListsAlong : D → Type 0
  ListsAlong = Along Steps (λ first pairs later. IsListingBut (live first) (list_map (λ p. (data_of p.0, p.1)) pairs) (live later))

  -- they are yielded by ascending index, before those that the map still holds
  abbrev pub InOrderAlong : D → Type 0
  InOrderAlong = Along Steps (λ first pairs later. map.entries (live first) ≡ list_map (λ p. (data_of p.0, p.1)) pairs ++ map.entries (live later))
