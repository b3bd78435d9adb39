use Rattle.std.proofs.Common.{sym}
use Rattle.slotmap_paths.proofs.Callers.{none_less, none_missed}
use Rattle.paths_callers.proofs.routes.route.Goals as goal

pub returns-in-Ok-Some-clause-way : goal.returns-in-Ok-Some-clause-way
returns-in-Ok-Some-clause-way g c = rw c.in-Ok-Some.field-0-is at (c.in-Ok-Some.ensures.route _ _ c.in_ok-paths.ensures.traced)

pub returns-in-Ok-Some-clause-time : goal.returns-in-Ok-Some-clause-time
returns-in-Ok-Some-clause-time g c = rw c.in-Ok-Some.field-0-is at (c.in-Ok-Some.ensures.cost _ _ _ c.in_ok-paths.ensures.traced (sym c.in-Some.ensures.value))

pub returns-in-Ok-Some-clause-fastest : goal.returns-in-Ok-Some-clause-fastest
returns-in-Ok-Some-clause-fastest g c other way = let here = c.in-Some.ensures.value in
    none_less _ _ _ _ _ (λ sum. c.in_ok-paths.ensures.least _ sum (c.in_ok-paths.ensures.start _ _ (sym here))) other way c.in-Some.reached.now here

pub returns-in_default-clause-none : goal.returns-in_default-clause-none
returns-in_default-clause-none g c other live way = none_missed _ _ _ _ _ (λ sum. c.in_ok-paths.ensures.least _ sum live) other way c.in_default.ensures.value
