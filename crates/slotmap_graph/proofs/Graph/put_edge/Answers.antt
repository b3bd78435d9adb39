use Rattle.slotmap_graph.proofs.Common.{Inserts, SeenEdge}
use Rattle.slotmap_graph.proofs.GraphSteps.{edge_free, edge_seen, edge_threaded}
use Rattle.slotmap_graph.proofs.Graph.put_edge.Goals.{After-insert_reserved-key}
use Rattle.slotmap_graph.proofs.Graph.put_edge.Goals as goal

-- the edge that comes, with the keys of its two nodes
inserts : (g : _) (c : After-insert_reserved-key g) → Inserts {V = SeenEdge g.row.E.Denot} c.self.inside.edges c.insert_reserved-key.result
    (record { from = g.K.Key.data_of c.args.from; to = g.K.Key.data_of c.args.to; value = c.args.edge }) c.insert_reserved-key.new.self
inserts g c = rw (c.new-edge.ensures, c.inner.ensures, c.inner-2.ensures) at c.insert_reserved-key.ensures.inserts

pub put_last-requires-clause-free : goal.put_last-requires-clause-free
put_last-requires-clause-free g c = let m = c.insert_reserved-key.ensures in let is = inserts g (goal.at.put_last-requires-clause-free g c).After-insert_reserved-key in
    edge_free c.self.invariant.out is m.fresh m.valid.after m.bound m.within (rw (← c.self.view_is) at c.requires.from)

pub put_last-requires-2-clause-free : goal.put_last-requires-2-clause-free
put_last-requires-2-clause-free g c = let m = c.insert_reserved-key.ensures in let is = inserts g (goal.at.put_last-requires-2-clause-free g c).After-insert_reserved-key in
    edge_free c.self.invariant.into is m.fresh m.valid.after m.bound m.within (rw (← c.self.view_is) at c.requires.to)

pub invariant_of-self : goal.invariant_of-self
invariant_of-self g c = let m = c.insert_reserved-key.ensures in let is = inserts g (goal.at.invariant_of-self g c).After-insert_reserved-key in record {
  out = edge_threaded c.self.invariant.out is m.fresh m.valid.after m.bound m.within (rw (← c.self.view_is) at c.requires.from)
      c.put_last.ensures.list c.put_last.ensures.disjoint;
  into = edge_threaded c.self.invariant.into is m.fresh m.valid.after m.bound m.within (rw (← c.self.view_is) at c.requires.to)
      c.put_last-2.ensures.list c.put_last-2.ensures.disjoint;
}

pub returns-clause-out : goal.returns-clause-out
returns-clause-out g c = let m = c.insert_reserved-key.ensures in let is = inserts g (goal.at.returns-clause-out g c).After-insert_reserved-key in rw (← c.self.view_is)
    (edge_seen c.self.invariant.out is m.fresh m.valid.after m.bound m.within (rw (← c.self.view_is) at c.requires.from) c.put_last.ensures.list)

pub returns-clause-into : goal.returns-clause-into
returns-clause-into g c = let m = c.insert_reserved-key.ensures in let is = inserts g (goal.at.returns-clause-into g c).After-insert_reserved-key in rw (← c.self.view_is)
    (edge_seen c.self.invariant.into is m.fresh m.valid.after m.bound m.within (rw (← c.self.view_is) at c.requires.to) c.put_last-2.ensures.list)
