use Rattle.std.proofs.Common.{Some, ap, refl, ◌∙◌}
use Rattle.slotmap_list.proofs.Looks.{look_start, look_here, look_next, look_end}
use Rattle.list_callers.proofs.cursors.find.Goals as goal

pub loop-cursor-init : goal.loop-cursor-init
loop-cursor-init c =
    let gives = c.into_iter-cursor-iterator.ensures.into_iter_gives in
    (tt, tt, rw gives.0 (look_start _ _), rw gives.0 at gives.1)

pub returns-then-value-wanted-clause-found : goal.returns-then-value-wanted-clause-found
returns-then-value-wanted-clause-found c = look_here _ _ _ c.loop-cursor.invariant.2 _ _ _ c.in-Some.ensures.steps c.loop-cursor.invariant.3 ∙ ap Some c.if-value-wanted.true

pub loop-cursor-preserved : goal.loop-cursor-preserved
loop-cursor-preserved c = (tt, tt, look_next _ _ _ c.loop-cursor.invariant.2 _ _ _ c.in-Some.ensures.steps c.if-value-wanted.false, c.loop-cursor.invariant.3)

pub returns-clause-none : goal.returns-clause-none
returns-clause-none c k found = look_end _ _ _ c.loop-cursor.invariant.2 c.in-None.ensures.steps.0 k _ found refl
