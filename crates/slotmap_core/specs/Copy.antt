-- A primary map that was copied.
use Rattle.std.specs.Prelude.{◌≡◌}
use Rattle.std.specs.FinMap as map
use Rattle.slotmap_core.specs.Key.{Key}
use Rattle.slotmap_core.specs.Clones.{IsCloneOf}
use Rattle.slotmap_core.specs.Content.{Content}
use Rattle.slotmap_core.specs.Transition.{Keeps}

-- the copy holds the same keys and values, and returns the same new keys; its room and its capacity are its own
abbrev pub IsCopy : {V : Type 0} → Content V → Content V → Type 0
IsCopy source copy = Keeps source (record copy { room = source.room })

-- the copy holds the same keys, each live one with a clone of its value, and returns the same new keys; its room and its
-- capacity are its own
pub record IsCloneBy {V : Type 0} (is_clone : V → V → Type 0) (source copy : Content V) : Type 0 where
  pub live : (k : Key) → IsCloneOf is_clone (map.get source.live k) (map.get copy.live k)
  pub detached : copy.detached ≡ source.detached
  pub retired : copy.retired ≡ source.retired
  pub next : copy.next ≡ source.next
  pub offer : copy.offer ≡ source.offer
  pub stack : copy.stack ≡ source.stack
