-- The content with the same keys and other values is well formed too.
use Rattle.std.specs.FinMap as map
use Rattle.std.proofs.Common.{◌≡◌, ◌+◌, ◌≤◌, ℕ, true, false, arith}
use Rattle.slotmap_core.proofs.Common.{Key, key_cmp, Content, IsContent, IsContent-with_live}
use Rattle.slotmap_dense.specs.Packed.{over}

-- both maps have the same keys
pub record SameKeys {A B : Type 0} (a : map.FinMap key_cmp A) (b : map.FinMap key_cmp B) : Type 0 where
  pub each : (k : Key) → map.contains_key a k ≡ map.contains_key b k
  pub all : map.len a ≡ map.len b

pub IsContent-over : {V : Type 0} (c : Content ℕ) (live : map.FinMap key_cmp V) → SameKeys live c.live → (room capacity : ℕ) → IsContent true c
    → room ≤ c.room → map.len live + room ≤ capacity → IsContent false (over c live room capacity)
IsContent-over c live same room capacity well less holds = IsContent-with_live true false c live same.each same.all room capacity well (omega (arith, well.room_fits)) (λ is. absurd (cc)) holds
