use Rattle.slotmap_graph.proofs.{Common.from, Threaded.after_along}
use Rattle.slotmap_graph.proofs.Graph.next_from.Goals as goal

pub next_of-requires : goal.next_of-requires
next_of-requires g c = (from, c.self.inside.nodes, c.self.invariant.out)

pub returns-clause-value : goal.returns-clause-value
returns-clause-value g c = rw (← c.self.view_is) (c.next_of.ensures from c.self.inside.nodes c.self.invariant.out)

pub returns-clause-along : goal.returns-clause-along
returns-clause-along g c = rw (← c.self.view_is) (after_along c.self.invariant.out c.args.edge _ (c.next_of.ensures from c.self.inside.nodes c.self.invariant.out))
