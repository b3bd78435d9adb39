use Rattle.std.proofs.Common.{ℕ, sym, ap, length, Some, ◌∙◌, arith}
use Rattle.slotmap_list.proofs.Parts.{elements_long}
use Rattle.slotmap_lists.proofs.iter.IterIterator.size_hint.Goals as goal

pub returns : goal.returns
returns g c = let long = c.len-left.ensures.value ∙ sym (elements_long c.self.inside.indices c.self.invariant) ∙ ap length c.self.view_is in
    record { lower = omega (arith, long); upper = (tt, omega (arith, long)); exact = ap (λ (n : ℕ). (n, Some n)) long }
