-- Where an iteration that keeps only its last key goes on.
use Rattle.std.specs.Prelude.{◌+◌, ℕ, Option, Some, None}
use Rattle.slotmap_core.specs.Words.{Key}

-- The least index after that of a key, and with no key the least of all
abbrev pub index_after : {K : Type 0} → (K → Key) → Option K → ℕ
index_after data_of None = 0
index_after data_of (Some k) = (data_of k).index + 1
