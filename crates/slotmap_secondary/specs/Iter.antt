-- What an iterator over the slots of a `SecondaryMap` has still to visit. No public clause cites this module.
use Rattle.std.specs.Prelude.{◌≡◌, ◌+◌, ◌<◌, ◌^◌, ◌∷◌, ℕ, List, [], length}
use Rattle.slotmap_core.specs.Words.{Key, IsKey}
use Rattle.slotmap_secondary.specs.declared.slot.Slot.{Slot}
use Rattle.slotmap_secondary.specs.declared.slot.Slot.TheVariants.{Vacant, Occupied}

module _ {V : Type 0} where
  -- the keys and values of these slots; the first slot has index i
  abbrev pub pairs_from : ℕ → List (Slot V) → List (Key × V)
  pairs_from i [] = []
  pairs_from i (Vacant version ∷ rest) = pairs_from (i + 1) rest
  pairs_from i (Occupied version value ∷ rest) = (record { index = i; version = version }, value) ∷ pairs_from (i + 1) rest

  -- the values of these slots
  abbrev pub values_in : List (Slot V) → List V
  values_in [] = []
  values_in (Vacant version ∷ rest) = values_in rest
  values_in (Occupied version value ∷ rest) = value ∷ values_in rest

  -- each occupied one has the index and version of a key
  abbrev pub AreKeys : ℕ → List (Slot V) → Type 0
  AreKeys i [] = Unit {0}
  AreKeys i (Vacant version ∷ rest) = AreKeys (i + 1) rest
  AreKeys i (Occupied version value ∷ rest) = IsKey (record { index = i; version = version }) × AreKeys (i + 1) rest

  -- these slots are left to visit, the first of index i, with `left` values in them
  pub record IsIter (slots : List (Slot V)) (i left : ℕ) : Type 0 where
    pub counted : left ≡ length (pairs_from i slots)
    pub fits : i + length slots < 2 ^ 32
    pub keys : AreKeys i slots
