-- Clones of the values of a secondary map.
use Rattle.slotmap_core.specs.Key.{Key}
use Rattle.slotmap_core.specs.Clones.{IsCloneOf}
use Rattle.slotmap_core.specs.Secondary.{Pairs, get}

-- the same keys, each with a clone of its value
abbrev pub HasClones : {V : Type 0} → (V → V → Type 0) → Pairs V → Pairs V → Type 0
HasClones is_clone source copy = (k : Key) → IsCloneOf is_clone (get source k) (get copy k)
