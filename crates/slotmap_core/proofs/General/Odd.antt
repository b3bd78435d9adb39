-- A number with its lowest bit set is odd.
-- For this crate alone.
use Rattle.std.proofs.Common.{◌≡◌, ℕ, ◌+◌, ◌*◌, ◌/◌, ◌%◌, ◌^◌, ◌<◌, ap, ◌∙◌, arith, bit_or}
use Rattle.std.proofs.lemmas.Nat.{or_block}
use Rattle.slotmap_core.specs.Words.{or_zero_r}

low : (r : ℕ) → r < 2 → bit_or r 1 ≡ 1
low r h = grind arith

pub or_one : (v : ℕ) → bit_or v 1 ≡ v / 2 * 2 + 1
or_one v =
    let e : v ≡ v / 2 * 2 ^ 1 + v % 2 = omega arith in
    ap (λ x. bit_or x 1) e ∙ or_block 1 (v / 2) 0 (v % 2) 1 (omega arith) (omega arith) ∙ ap (λ x. x * 2 ^ 1 + bit_or (v % 2) 1) (or_zero_r (v / 2))
    ∙ ap (λ x. v / 2 * 2 ^ 1 + x) (low (v % 2) (omega arith))
