use Rattle.slotmap_graph.proofs.Common.{ap, ends_along, far_end}
use Rattle.slotmap_graph.proofs.Threaded.{indices_at, owned_at, owner_below}
use Rattle.slotmap_graph.proofs.neighbours.neighbours_of.Goals as goal

pub iter-requires : goal.iter-requires
iter-requires g c = owner_below c.requires.1 (g.K.Key.data_of c.args.node) c.owner_of.result c.owner_of.ensures.live c.owner_of.ensures.gone

pub invariant_of-result : goal.invariant_of-result
invariant_of-result g c = rw c.iter.ensures (c.requires.1.edge_indices, indices_at c.requires.1 c.owner_of.result)

pub returns : goal.returns
returns g c =
    rw c.iter.ensures
    (ap (ends_along (far_end c.args.direction) c.args.edges.now.live) (owned_at c.requires.1 (g.K.Key.data_of c.args.node) c.owner_of.result
    c.owner_of.ensures.live c.owner_of.ensures.gone))
