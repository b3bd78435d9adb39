-- A part of a picture that was marked as dirty.
use Rattle.std.specs.Prelude.{true}
use Rattle.slotmap_scene.specs.Node.{Node}
use Rattle.scene_callers.specs.declared.dirty.Part.{Part}

abbrev pub as_dirty : Part → Part
as_dirty part = record part { is_dirty = true }

abbrev pub dirtied : Node Part → Node Part
dirtied node = record node { value = as_dirty node.value }
