-- What a contract sees of a `Drain`.
use Rattle.std.specs.Prelude.{◌≡◌, ◌++◌, List, [], Option, IsSome, length, map as list_map, option_map}
use Rattle.std.specs.Borrow.{MutBor}
use Rattle.std.specs.Iterator.{Count, at_most, Yields}
use Rattle.slotmap.specs.Words.{Key, IsSpent, KeepsSpent, Leaves}
use Rattle.slotmap_list.specs.Sequence.{Sequence, memory, value_of, TakesFront}
use Rattle.slotmap_list.specs.declared.drain.Drain.{Drain}
use Rattle.std.specs.FinMap as map

-- no element is left, no cursor is live, and those of all that there were are spent; no room is lost, and the capacity stays
pub record EmptiesList {T : Type 0} (old new : Sequence T) : Type 0 where
  pub empty : new.elements ≡ []
  pub none_live : new.cursors.live ≡ map.empty
  pub for_good : (k : Key) → IsSome (value_of k old.elements) → IsSpent new.cursors k
  pub gone : KeepsSpent old.cursors new.cursors
  pub leaves : Leaves old.cursors new.cursors
  pub capacity : memory new ≡ memory old

module _ {K T : Type 0} where
  -- the loan of the list
  abbrev pub drain_loan : Drain K T → MutBor (Sequence T)
  drain_loan d = d.list

  -- how many elements are left
  abbrev pub drain_count : Drain K T → Count
  drain_count d = at_most (length d.list.now.elements)

  -- both hold the same loan of a list. What the list of `new` is emptied to, that of `old` is emptied to as well
  abbrev pub SameLoan : Drain K T → Drain K T → Type 0
  SameLoan old new = ((drain_loan new).ghost_name ≡ (drain_loan old).ghost_name)
      × ((end : Sequence T) → EmptiesList (drain_loan new).now end → EmptiesList (drain_loan old).now end)

  module _ (data_of : K → Key) where
    -- `next` took the first element out of the list, or there is none
    abbrev pub DrainSteps : Drain K T → Option (K × T) → Drain K T → Type 0
    DrainSteps old item new = TakesFront old.list.now.elements (option_map (λ e. (data_of e.0, e.1)) item) new.list.now.elements × SameLoan old new

    -- each state after calls of `next` has the loan of the first one
    abbrev pub KeepsLent : Drain K T → Type 0
    KeepsLent first = (items : List (K × T)) (later : Drain K T) → Yields (DrainSteps) first items later → SameLoan first later

    -- what calls of `next` yield stands in the list before what is left
    abbrev pub YieldsInOrder : Drain K T → Type 0
    YieldsInOrder first = (items : List (K × T)) (later : Drain K T) → Yields (DrainSteps) first items later
        → first.list.now.elements ≡ list_map {B = Key × T} (λ e. (data_of e.0, e.1)) items ++ later.list.now.elements
