use Rattle.slotmap_links.proofs.Common.{◌∙◌, ℕ, Some, ap, length, arith, segment_long}
use Rattle.slotmap_links.proofs.iter.MembersIterator.size_hint.Goals as goal

pub returns : goal.returns
returns c = let long = segment_long c.self.invariant ∙ ap length c.self.view_is in
    record { lower = omega (arith, long); upper = (tt, omega (arith, long)); exact = ap (λ (n : ℕ). (n, Some n)) long }
