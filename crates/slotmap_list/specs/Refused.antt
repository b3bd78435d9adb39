-- What a refused call returns.
use Rattle.std.specs.Prelude.{◌≡◌, None, IsSome}
use Rattle.slotmap.specs.Words.{Key, Content, LacksRoom, used, most}
use Rattle.slotmap_list.specs.declared.PushError.{PushError}
use Rattle.slotmap_list.specs.Sequence.{Sequence, value_of}
use Rattle.slotmap_list.specs.declared.PlaceError.{PlaceError}
use Rattle.slotmap_list.specs.declared.PlaceError.TheVariants.{Gone, Full, Memory}
use Rattle.slotmap_list.specs.declared.PushError.TheVariants as push

module _ {T : Type 0} where
  -- `Full` if and only if a map can hold no more keys, else `Memory`, where no room was promised; the value is returned
  abbrev pub RefusesPush : Content (Unit {0}) → T → PushError T → Type 0
  RefusesPush cursors v (push.Full back) = (used cursors ≡ most) × (back ≡ v)
  RefusesPush cursors v (push.Memory back) = LacksRoom cursors × (back ≡ v)

  -- `Gone` if and only if the cursor isn't in the list, and then the same; the value is returned
  abbrev pub RefusesPlace : Sequence T → Key → T → PlaceError T → Type 0
  RefusesPlace s k v (Gone back) = (value_of k s.elements ≡ None) × (back ≡ v)
  RefusesPlace s k v (Full back) = IsSome (value_of k s.elements) × ((used s.cursors ≡ most) × (back ≡ v))
  RefusesPlace s k v (Memory back) = IsSome (value_of k s.elements) × (LacksRoom s.cursors × (back ≡ v))
