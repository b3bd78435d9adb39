use Rattle.paths_callers.proofs.PathLemmas.{never_too_long, none_costs_less, none_leads, start_alone}
use Rattle.paths_callers.proofs.guards.shortest_paths.Goals as goal

pub returns-clause-no_path_costs_less : goal.returns-clause-no_path_costs_less
returns-clause-no_path_costs_less g c = let ensures = c.shortest_paths.ensures in none_costs_less _ _ _ _ _ _ ensures.least ensures.start

pub returns-clause-no_path_leads_elsewhere : goal.returns-clause-no_path_leads_elsewhere
returns-clause-no_path_leads_elsewhere g c = none_leads _ _ _ _ _ _ c.shortest_paths.ensures.least

pub returns-clause-only_the_start_has_no_edge : goal.returns-clause-only_the_start_has_no_edge
returns-clause-only_the_start_has_no_edge g c = start_alone _ _ _ _ (Unit {0}) _ c.shortest_paths.ensures.by

pub returns-clause-small_costs_are_never_too_long : goal.returns-clause-small_costs_are_never_too_long
returns-clause-small_costs_are_never_too_long g c most small few = never_too_long _ _ most small c.shortest_paths.result _ _ few c.shortest_paths.ensures.err
