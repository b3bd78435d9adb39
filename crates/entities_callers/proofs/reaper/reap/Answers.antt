use Rattle.std.proofs.Common.{refl, ap, arith}
use Rattle.slotmap_entities.proofs.Callers.{thin_all, thin_end, thin_on, thin_out}
use Rattle.entities_callers.proofs.reaper.reap.Goals as goal

pub loop-at-preserved-then-eq : goal.loop-at-preserved-then-eq
loop-at-preserved-then-eq c = let d = c.despawn.ensures in
    thin_out c.loop-at.invariant _ _ c.keys_as_slice.ensures (omega arith) _ c.index-keys_as_slice-at.is _ _ d.order d.unchanged d.removed
    (grind arith) (λ q other. ap (λ p. p.0) (d.others q other).1)

pub loop-at-preserved : goal.loop-at-preserved
loop-at-preserved c =
    thin_on c.loop-at.invariant _ _ c.keys_as_slice.ensures (omega arith) _ c.index-keys_as_slice-at.is _ refl (λ zero. grind arith, refl) (λ q other. refl)

pub returns-clause-alive : goal.returns-clause-alive
returns-clause-alive c k live = (thin_end c.loop-at.invariant c.len.ensures.valid (omega arith) k live).0

pub returns-clause-others : goal.returns-clause-others
returns-clause-others c k live some = let all = thin_all c.loop-at.invariant c.len.ensures.valid (omega arith) k live in grind (arith, all)
