use Rattle.std.proofs.Common.{Some, ap, refl, ◌∙◌}
use Rattle.slotmap.proofs.Callers.{walk_start, walk_here, walk_next, walk_end}
use Rattle.slotmap_examples.proofs.walks.find_key.Goals as goal

pub loop-key-init : goal.loop-key-init
loop-key-init g c = (tt, tt, walk_start _ _ _ (rw c.into_iter-key-iterator.ensures.into_iter_gives c.iter-key-items.ensures.listing))

pub returns-then-value-wanted-clause-found : goal.returns-then-value-wanted-clause-found
returns-then-value-wanted-clause-found g c = walk_here _ _ _ c.loop-key.invariant.2 _ _ _ c.in-Some.ensures.steps ∙ ap Some c.if-value-wanted.true

pub loop-key-preserved : goal.loop-key-preserved
loop-key-preserved g c = (tt, tt, walk_next _ _ _ c.loop-key.invariant.2 _ _ _ c.in-Some.ensures.steps c.if-value-wanted.false)

pub returns-clause-none : goal.returns-clause-none
returns-clause-none g c k found = walk_end _ _ _ c.loop-key.invariant.2 c.in-None.ensures.steps.0 k _ found refl
