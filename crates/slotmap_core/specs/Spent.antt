-- Keys that are live again in no run of commands.
use Rattle.std.specs.Prelude.{◌≡◌, ℕ, ◌<◌, ◌≤◌, Some}
use Rattle.std.specs.FinMap as map
use Rattle.slotmap_core.specs.Key.{Key}
use Rattle.slotmap_core.specs.Content.{Content, Stands, places}

module _ {V : Type 0} where
  -- k isn't live, and isn't again in any run of commands; `clone_from` and a map read from a list start anew. Its index has a
  -- place, and each key that is there or comes there is newer
  pub record IsSpent (c : Content V) (k : Key) : Type 0 where
    pub within : k.index ≤ places c
    pub vacant : (v : ℕ) → map.get c.next k.index ≡ Some v → k.version < v
    pub stands : (u : Key) → Stands c u → u.index ≡ k.index → k.version < u.version

  -- what is spent stays so
  abbrev pub KeepsSpent : Content V → Content V → Type 0
  KeepsSpent old new = (k : Key) → IsSpent old k → IsSpent new k
