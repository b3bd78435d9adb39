-- Offsets join: what callers of `world` cite where the values are offsets.
use Rattle.std.proofs.Common.{◌+ℤ◌, ◌≡◌}
use Rattle.slotmap_scene.proofs.Common.{+ℤ_assoc, Joins, ap, int_wrap, int_wrap-add_left, int_wrap-add_right, shifted, sym, w32, ℤ, ◌∙◌}

wrap_joins : (a b c : ℤ) → int_wrap w32 (int_wrap w32 (a +ℤ b) +ℤ c) ≡ int_wrap w32 (a +ℤ int_wrap w32 (b +ℤ c))
wrap_joins a b c = int_wrap-add_left w32 (a +ℤ b) c ∙ ap (int_wrap w32) (+ℤ_assoc a b c) ∙ sym (int_wrap-add_right w32 a (b +ℤ c))

pub shifted_joins : Joins shifted
shifted_joins a b c = λ i. record { x = wrap_joins a.x b.x c.x i; y = wrap_joins a.y b.y c.y i }
