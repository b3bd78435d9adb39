-- The places of a primary map, and what they hold.
use Rattle.std.specs.Prelude.{ℕ, Bool, false, zero, suc, ◌==◌, List, Option, None, Some, if◌then◌else◌}
use Rattle.std.specs.Ordering.{nat_cmp}
use Rattle.std.specs.FinMap as map
use Rattle.std.specs.FinSet as set
use Rattle.slotmap_core.specs.Key.{Key, key_cmp, last_version, is_last, next_version}
use Rattle.slotmap_core.specs.Gather.{gather}

-- what is at an index: a value under a version, a version that is kept, the version of the next key here, or nothing any more
pub data Place (V : Type 0) : Type 0 where
  Live : (version : ℕ) → V → Place V
  Detached : (version : ℕ) → Place V
  Vacant : (next : ℕ) → Place V
  Retired : Place V

module _ {V : Type 0} where
  abbrev pub live_entry : ℕ → Place V → Option (Key × V)
  live_entry i (Live version value) = Some (record { index = i; version = version }, value)
  live_entry i (Detached version) = None
  live_entry i (Vacant next) = None
  live_entry i Retired = None

  abbrev pub detached_entry : ℕ → Place V → Option (Key × Unit {0})
  detached_entry i (Live version value) = None
  detached_entry i (Detached version) = Some (record { index = i; version = version }, tt)
  detached_entry i (Vacant next) = None
  detached_entry i Retired = None

  abbrev pub retired_entry : ℕ → Place V → Option (Key × Unit {0})
  retired_entry i (Live version value) = None
  retired_entry i (Detached version) = None
  retired_entry i (Vacant next) = None
  retired_entry i Retired = Some (record { index = i; version = last_version }, tt)

  -- index 0 has no key
  abbrev pub next_entry : ℕ → Place V → Option (ℕ × ℕ)
  next_entry zero p = None
  next_entry (suc i) (Live version value) = None
  next_entry (suc i) (Detached version) = None
  next_entry (suc i) (Vacant next) = Some (suc i, next)
  next_entry (suc i) Retired = None

  -- the live keys and their values
  unfoldable pub live : List (Place V) → map.FinMap key_cmp V
  live = gather map.empty (λ m e. map.insert m e.0 e.1) live_entry 0

  unfoldable pub detached : List (Place V) → set.FinSet key_cmp
  detached = gather set.empty (λ s e. set.insert s e.0) detached_entry 0

  -- the last key of each place that is retired
  unfoldable pub retired : List (Place V) → set.FinSet key_cmp
  retired = gather set.empty (λ s e. set.insert s e.0) retired_entry 0

  -- the vacant indices, each with the version that its next key will have
  unfoldable pub next : List (Place V) → map.FinMap nat_cmp ℕ
  next = gather map.empty (λ m e. map.insert m e.0 e.1) next_entry 0

  -- the value at a place that is live under this version
  abbrev pub live_value : ℕ → Option (Place V) → Option V
  live_value wanted None = None
  live_value wanted (Some (Live version value)) = (if version == wanted then Some value else None)
  live_value wanted (Some (Detached version)) = None
  live_value wanted (Some (Vacant next)) = None
  live_value wanted (Some Retired) = None

  -- whether a place is detached under this version
  abbrev pub is_detached_at : ℕ → Option (Place V) → Bool
  is_detached_at wanted None = false
  is_detached_at wanted (Some (Live version value)) = false
  is_detached_at wanted (Some (Detached version)) = version == wanted
  is_detached_at wanted (Some (Vacant next)) = false
  is_detached_at wanted (Some Retired) = false

  -- the place of a key once the key was removed: vacant, or retired after the last key
  abbrev pub left_by : Key → Place V
  left_by k = if is_last k then Retired else Vacant (next_version k)
