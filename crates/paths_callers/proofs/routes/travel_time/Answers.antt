use Rattle.std.proofs.Common.{sym}
use Rattle.slotmap_paths.proofs.Callers.{none_less, none_missed}
use Rattle.paths_callers.proofs.routes.travel_time.Goals as goal

pub returns-in-Some-clause-fastest : goal.returns-in-Some-clause-fastest
returns-in-Some-clause-fastest g c other way = let here = c.in-Some.ensures.value in
    none_less _ _ _ _ _ (λ sum. c.in_ok-paths.ensures.least _ sum (c.in_ok-paths.ensures.start _ _ (sym here))) other way c.in-Some.reached.now here

pub returns-clause-none : goal.returns-clause-none
returns-clause-none g c other live way = none_missed _ _ _ _ _ (λ sum. c.in_ok-paths.ensures.least _ sum live) other way c.in-None.ensures.value
