use Rattle.std.proofs.Common.{◌≡◌, ◌+◌, ◌^◌, ◌≤◌}
use Rattle.slotmap_paths.specs.Searching.{GoesBeyond}
use Rattle.slotmap_paths.specs.declared.PathError.TheVariants.{TooLong}
use Rattle.slotmap_paths.proofs.EdgeSteps.{if_err}
use Rattle.slotmap_paths.proofs.search.follow.Goals as goal

pub returns-in-Some-clause-err : goal.returns-in-Some-clause-err
returns-in-Some-clause-err g c = if_err (λ e. e ≡ TooLong → 2 ^ 64 ≤ c.args.distance + c.in-Some.end.1)
    (λ e. e ≡ TooLong → GoesBeyond c.args.graph.now.edges.live c.args.costs.now.pairs c.args.distance c.args.edge)
    (λ e is too. (c.in-Some.ensures.some.0, g.K.Key.data_of c.in-Some.end.0, c.in-Some.end.1, c.in-Some.ensures.some.1, is too)) c.offer.result c.offer.ensures.err
