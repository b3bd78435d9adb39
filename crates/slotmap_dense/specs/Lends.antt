-- What a dense map holds at the end of a loan, if a call returned a `&mut` into it.
use Rattle.std.specs.declared.cmp.Ordering.{Ordering}
use Rattle.slotmap_core.specs.Words.{ℕ, Bool, List, Option, slice_set, Lends, LendsIf, LendsBoth, Fml, RattleType, MutBor, GName, Array, follows, Key}
use Rattle.slotmap_dense.specs.Dense.{Dense, with_value_of, with_values_in}
use Rattle.slotmap_dense.specs.contracts.DenseSlotMap.{the_row}

-- the members of a key type, which a clause writes as K.Key
abbrev pub KeyMembers : Type 0 → Type 1
KeyMembers K =
    record {
      debug_output : K → Option (List ℕ);
      hash_input : K → List (List ℕ);
      partial_cmp : K → K → Option Ordering;
      cmp : K → K → Ordering;
      eq : K → K → Bool;
      is_default : K → Type 0;
      from_gives : Key → K → Type 0;
      data_of : K → Key;
      of_data : Key → K;
    }

module _ (K V : RattleType) (key : KeyMembers K.Denot) where
  -- the type of the map in the logic
  abbrev pub map_row : RattleType
  map_row =
      the_row K V (record { data_of = key.data_of; of_data = key.of_data }) (record { from_gives = key.from_gives })
      (record { is_default = key.is_default }) (record { eq = key.eq }) (record { cmp = key.cmp }) (record { partial_cmp = key.partial_cmp })
      (record { hash_input = key.hash_input }) (record { debug_output = key.debug_output })

  module _ (m : MutBor (Dense V.Denot)) (k : Key) where
    -- once the borrow r ends, the key has the last value written through r
    abbrev pub lends_value : MutBor V.Denot → Fml
    lends_value r = Lends map_row V m r (with_value_of m.now k)

    -- the same for an optional reference; at `None` the map is unchanged
    abbrev pub lends_get : Option (MutBor V.Denot) → Fml
    lends_get r = LendsIf map_row V m r (with_value_of m.now k) m.now

  -- once the borrow r ends, the values are those last written through r, in packed order
  abbrev pub lends_values : MutBor (Dense V.Denot) → MutBor (List V.Denot) → Fml
  lends_values m r = Lends map_row (Array V 0) m r (with_values_in m.now)

  -- the same for the loan with this name
  abbrev pub lends_iter : MutBor (Dense V.Denot) → GName → Fml
  lends_iter m name = follows map_row (Array V 0) m.ghost_name name (with_values_in m.now)

-- once the borrows of two elements of a slice end, the elements are the values last written through them
abbrev pub lends_two : (V : RattleType) → MutBor (List V.Denot) → ℕ → ℕ → MutBor V.Denot × MutBor V.Denot → Fml
lends_two V xs i j r = LendsBoth (Array V 0) V V xs r (λ a b. slice_set (slice_set xs.now i a) j b)
