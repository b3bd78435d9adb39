-- Which versions of a chunk are odd, as bits of a number.
use Rattle.std.specs.Prelude.{◌≡◌, ◌≢◌, ◌+◌, ◌-◌, ◌^◌, ◌%◌, ◌<◌, ◌≤◌, ℕ, max, List, length, Some, slice_get, get_or}
use Rattle.slotmap_core.specs.Words.{bit_at}
use Rattle.slotmap_basic.specs.Columns.{AllEven}

-- A chunk has 64 versions, and `end` is the index after its last one. Bit k is set where the k-th is odd, if its index is
-- `index` or more
abbrev pub AreOdd : List ℕ → ℕ → ℕ → ℕ → Type 0
AreOdd versions end index bits = (i k : ℕ) → k < 64 → i + 64 ≡ end + k → index ≤ i → bit_at bits k ≡ get_or versions i 0 % 2

-- each version from `start` on is even, up to this chunk
abbrev pub EvenBefore : List ℕ → ℕ → ℕ → Type 0
EvenBefore versions end start = (i v : ℕ) → start ≤ i → i + 64 < end → slice_get versions i ≡ Some v → v % 2 ≡ 0

-- the first chunk from `start` on that has an odd version, or the last
pub record IsFound (versions : List ℕ) (start end bits : ℕ) : Type 0 where
  pub on : start + 64 ≤ end
  pub within : end ≤ length versions + 64
  pub passed : EvenBefore versions end start
  pub odd : AreOdd versions end 0 bits
  pub last : bits ≡ 0 → length versions ≤ end

-- the odd versions of a chunk from `index` on
pub record HasOdds (versions : List ℕ) (end index bits : ℕ) : Type 0 where
  pub within : index ≤ length versions
  pub at : end ≤ length versions + 64
  pub upto : index ≤ end
  pub before : EvenBefore versions end index
  pub odd : AreOdd versions end index bits
  pub passed : (k : ℕ) → end + k < index + 64 → bit_at bits k ≡ 0

-- each version from the one index to the other is odd
abbrev pub AllOdd : List ℕ → ℕ → ℕ → Type 0
AllOdd versions start end = (i : ℕ) → start ≤ i → i < end → get_or versions i 0 % 2 ≡ 1

-- The first odd versions from `at` on are a run. It ends with a chunk, or it begins at `at`
pub record IsRun (versions : List ℕ) (at start end : ℕ) : Type 0 where
  pub on : at ≤ start
  pub some : start < end
  pub passed : AllEven versions at start
  pub odd : AllOdd versions start end

-- What a search from `at` on found: no odd version, a run if all bits are set, or else a chunk
pub record IsSeen (versions : List ℕ) (at end bits : ℕ) : Type 0 where
  pub none : bits ≡ 0 → AllEven versions at (length versions)
  pub run : bits ≡ 2 ^ 64 - 1 → IsRun versions at (max end (at + 64) - 64) end
  pub chunk : bits ≢ 0 → bits ≢ 2 ^ 64 - 1 → IsFound versions at end bits

-- what is ahead of a loop at `index`: each version of the run is odd, and behind the run there are those of a chunk
pub record IsAhead (versions : List ℕ) (run_end end index bits : ℕ) : Type 0 where
  pub odd : AllOdd versions index run_end
  pub behind : HasOdds versions end (max index run_end) bits
