use Rattle.std.proofs.Common.{ap, arith}
use Rattle.slotmap_entities.proofs.Callers.{thin_all, thin_end, thin_on, thin_out}
use Rattle.entities_callers.proofs.fuses.burn.Goals as goal

pub loop-at-preserved-then-eq : goal.loop-at-preserved-then-eq
loop-at-preserved-then-eq c = let d = c.despawn.ensures in
    thin_out c.loop-at.invariant _ _ c.keys_as_slice.ensures (omega arith) _ c.index-keys_as_slice-at.is _ _ d.order d.unchanged d.removed
    (grind arith) (λ q other. ap (λ p. p.0) (d.others q other).1)

pub loop-at-preserved : goal.loop-at-preserved
loop-at-preserved c = let s = c.burn_one.ensures in
    thin_on c.loop-at.invariant _ _ c.keys_as_slice.ensures (omega arith) _ c.index-keys_as_slice-at.is _ s.entities (λ zero. grind arith, s.burnt) s.others

pub returns-clause-over : goal.returns-clause-over
returns-clause-over c k live = (thin_end c.loop-at.invariant c.len.ensures.valid (omega arith) k live).0

pub returns-clause-burning : goal.returns-clause-burning
returns-clause-burning c k live some = let all = thin_all c.loop-at.invariant c.len.ensures.valid (omega arith) k live in grind (arith, all)
