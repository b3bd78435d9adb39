use Rattle.slotmap_graph.proofs.Common.{◌∙◌, Some, ap, get-bind_here, get-bind_other}
use Rattle.std.proofs.Common.{◌≡◌, ◌-◌}
use Rattle.slotmap_graph.proofs.order.lower.Goals as goal

pub returns-clause-here : goal.returns-clause-here
returns-clause-here g c n is = let same : c.index_mut-count.result.now ≡ n = (let h = c.index_mut-count.ensures.value in cc) in
    get-bind_here c.args.counts.now.pairs (g.K.Key.data_of c.args.node) c.index_mut-count.result.now (c.index_mut-count.result.now - 1) c.index_mut-count.ensures.value ∙ ap (λ m. Some (m - 1)) same

pub returns-clause-others : goal.returns-clause-others
returns-clause-others g c q other = get-bind_other c.args.counts.now.pairs (g.K.Key.data_of c.args.node) c.index_mut-count.result.now (c.index_mut-count.result.now - 1)
    c.index_mut-count.ensures.value q other
