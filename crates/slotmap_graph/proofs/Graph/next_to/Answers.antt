use Rattle.slotmap_graph.proofs.{Common.to, Threaded.after_along}
use Rattle.slotmap_graph.proofs.Graph.next_to.Goals as goal

pub next_of-requires : goal.next_of-requires
next_of-requires g c = (to, c.self.inside.nodes, c.self.invariant.into)

pub returns-clause-value : goal.returns-clause-value
returns-clause-value g c = rw (← c.self.view_is) (c.next_of.ensures to c.self.inside.nodes c.self.invariant.into)

pub returns-clause-along : goal.returns-clause-along
returns-clause-along g c = rw (← c.self.view_is) (after_along c.self.invariant.into c.args.edge _ (c.next_of.ensures to c.self.inside.nodes c.self.invariant.into))
