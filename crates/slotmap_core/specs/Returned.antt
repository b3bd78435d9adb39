-- The value that an error returns, and the same error with another value.
use Rattle.slotmap_core.specs.declared.errors.InsertError.{InsertError}
use Rattle.slotmap_core.specs.declared.errors.InsertError.TheVariants as insert
use Rattle.slotmap_core.specs.declared.errors.ReattachError.{ReattachError}
use Rattle.slotmap_core.specs.declared.errors.ReattachError.TheVariants as reattach

module _ {V : Type 0} where
  -- the value that was to be inserted
  abbrev pub uninserted : InsertError V → V
  uninserted (insert.Full v) = v
  uninserted (insert.Memory v) = v

  -- the value that was to be bound to a key again
  abbrev pub unattached : ReattachError V → V
  unattached (reattach.NotDetached v) = v
  unattached (reattach.Memory v) = v

module _ {V W : Type 0} where
  -- the same error with the value w
  abbrev pub with_uninserted : InsertError V → W → InsertError W
  with_uninserted (insert.Full v) w = insert.Full w
  with_uninserted (insert.Memory v) w = insert.Memory w

  abbrev pub with_unattached : ReattachError V → W → ReattachError W
  with_unattached (reattach.NotDetached v) w = reattach.NotDetached w
  with_unattached (reattach.Memory v) w = reattach.Memory w
