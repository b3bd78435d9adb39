-- What a refused call returns.
use Rattle.std.specs.Prelude.{◌≡◌, ◌<◌, ◌≤◌, ℕ, length, None, IsSome}
use Rattle.slotmap.specs.Words.{Key, LacksRoom, used, most}
use Rattle.slotmap_lists.specs.declared.AddError.{AddError}
use Rattle.slotmap_lists.specs.declared.AddError.TheVariants.{NoList, Full, Memory}
use Rattle.slotmap_list.specs.declared.PlaceError.{PlaceError}
use Rattle.slotmap_list.specs.declared.PlaceError.TheVariants as place
use Rattle.slotmap_lists.specs.Sequences.{Sequences, value_under}

module _ {T : Type 0} where
  -- `NoList` if and only if there is no list p, else `Full` if and only if a map can hold no more keys, else `Memory`, where no room
  -- was promised; the value is returned
  abbrev pub RefusesAdd : Sequences T → ℕ → T → AddError T → Type 0
  RefusesAdd s p v (NoList back) = (length s.lists ≤ p) × (back ≡ v)
  RefusesAdd s p v (Full back) = (p < length s.lists) × ((used s.cursors ≡ most) × (back ≡ v))
  RefusesAdd s p v (Memory back) = (p < length s.lists) × (LacksRoom s.cursors × (back ≡ v))

  -- `Gone` if and only if the cursor is in no list, and then the same; the value is returned
  abbrev pub RefusesBeside : Sequences T → Key → T → PlaceError T → Type 0
  RefusesBeside s k v (place.Gone back) = (value_under k s.lists ≡ None) × (back ≡ v)
  RefusesBeside s k v (place.Full back) = IsSome (value_under k s.lists) × ((used s.cursors ≡ most) × (back ≡ v))
  RefusesBeside s k v (place.Memory back) = IsSome (value_under k s.lists) × (LacksRoom s.cursors × (back ≡ v))
