use Rattle.std.proofs.Common.{ap, arith, sym, option_map, option_copied, ◌∙◌}
use Rattle.slotmap_graph.specs.Parts.{both}
use Rattle.slotmap_paths.proofs.Routes.{goes_back}
use Rattle.slotmap_paths.proofs.path.step_back.Goals as goal

pub returns-clause-some : goal.returns-clause-some
returns-clause-some g c = goes_back _ _ c.args.edge _ _ _ _ (ap (option_map (both g.K.Key.data_of)) (sym c.in_ok-from.was) ∙ c.edge_ends.ensures.ends)
    ((g.met.K.Key.eq_by_data c.in_ok-from.end c.args.to).0 (grind (arith, sym c.ne.ensures ∙ c.if-ne.false))) (sym c.get.ensures.value ∙ ap option_copied c.in_ok-reached.was)
