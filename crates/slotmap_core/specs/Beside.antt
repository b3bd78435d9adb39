-- A side table beside a primary map.
use Rattle.std.specs.Prelude.{◌≡◌, true}
use Rattle.slotmap_core.specs.Key.{Key}
use Rattle.slotmap_core.specs.Content.{Content, IsLive}
use Rattle.slotmap_core.specs.Secondary.{Pairs, contains_key}

-- each key of the side table is live in the primary map
abbrev pub IsBeside : {E V : Type 0} → Content E → Pairs V → Type 0
IsBeside c m = (k : Key) → contains_key m k ≡ true → IsLive c k
