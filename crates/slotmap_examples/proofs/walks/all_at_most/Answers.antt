use Rattle.std.proofs.Common.{refl, arith}
use Rattle.slotmap.proofs.Callers.{walk_start, walk_here, walk_next, walk_end}
use Rattle.slotmap_examples.proofs.walks.all_at_most.Goals as goal

pub loop-value-init : goal.loop-value-init
loop-value-init g c = (tt, tt, walk_start _ _ _ (rw c.into_iter-value-iterator.ensures.into_iter_gives c.iter-value-items.ensures.listing))

pub returns-then-value-most : goal.returns-then-value-most
returns-then-value-most g c = (λ h. absurd (cc), λ all. let less = all _ _ (walk_here _ _ _ c.loop-value.invariant.2 _ _ _ c.in-Some.ensures.steps) in absurd (omega arith))

pub loop-value-preserved : goal.loop-value-preserved
loop-value-preserved g c = (tt, tt, walk_next _ _ _ c.loop-value.invariant.2 _ _ _ c.in-Some.ensures.steps c.if-value-most.false)

pub returns : goal.returns
returns g c = (λ _. walk_end _ _ _ c.loop-value.invariant.2 c.in-None.ensures.steps.0, λ _. refl)
