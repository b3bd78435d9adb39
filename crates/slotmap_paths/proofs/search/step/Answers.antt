use Rattle.std.proofs.Common.{ap, sym, option_map, option_copied, ◌∙◌}
use Rattle.slotmap_graph.specs.Parts.{both}
use Rattle.slotmap_paths.proofs.EdgeSteps.{step_there}
use Rattle.slotmap_paths.proofs.search.step.Goals as goal

pub returns-clause-some : goal.returns-clause-some
returns-clause-some g c = step_there c.args.graph.now.edges.live c.args.costs.now.pairs c.args.edge _ _ _ (ap (option_map (both g.K.Key.data_of)) (sym c.in_ok-to.was) ∙ c.edge_ends.ensures.ends)
    (sym c.get.ensures.value ∙ ap option_copied c.in_ok-cost.was)
