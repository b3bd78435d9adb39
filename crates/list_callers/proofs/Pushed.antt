-- A push that can't fail, since there is room.
use Rattle.std.proofs.Common.{◌≡◌, ◌+◌, ◌≤◌, ℕ, List, [], ◌∷◌, ◌++◌, length, length-append, Result, Ok, Err, IsOk, IfOk, ap, arith}
use Rattle.slotmap.specs.Words.{Key, Content, Inserts}

-- it adds one element, and takes room for one key at most
pub pushed_after : {E : Type 0} (olds news : List (Key × ℕ)) (old new : Content (Unit {0})) (v : ℕ) (result : Result Key E) → IsOk result
    → IfOk result (λ k. news ≡ olds ++ (k, v) ∷ []) → IfOk result (λ k. Inserts old k tt new) → (length news ≡ length olds + 1) × (old.room ≤ new.room + 1)
pushed_after olds news old new v (Ok k) fits is inserts = (omega (arith, ap length is, length-append olds ((k, v) ∷ [])), inserts.room)
pushed_after olds news old new v (Err e) fits is inserts = absurd (cc)
