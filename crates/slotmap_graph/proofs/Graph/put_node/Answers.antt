use Rattle.slotmap_graph.proofs.Common.{◌∙◌, ap, is_some}
use Rattle.slotmap_graph.proofs.{GraphSteps.node_seen, GraphSteps.node_threaded, Threaded.at_none}
use Rattle.slotmap_graph.proofs.Graph.put_node.Goals as goal

pub invariant_of-self : goal.invariant_of-self
invariant_of-self g c = let m = c.insert_reserved.ensures in record {
  out = node_threaded c.self.invariant.out m.inserts c.capacity.ensures.valid m.valid.after m.bound m.within;
  into = node_threaded c.self.invariant.into m.inserts c.capacity.ensures.valid m.valid.after m.bound m.within;
}

pub returns-clause-out : goal.returns-clause-out
returns-clause-out g c = let m = c.insert_reserved.ensures in rw (← c.self.view_is) (node_seen c.self.invariant.out m.inserts c.capacity.ensures.valid m.valid.after m.bound m.within)

pub returns-clause-into : goal.returns-clause-into
returns-clause-into g c = let m = c.insert_reserved.ensures in rw (← c.self.view_is) (node_seen c.self.invariant.into m.inserts c.capacity.ensures.valid m.valid.after m.bound m.within)

pub returns-clause-none_out : goal.returns-clause-none_out
returns-clause-none_out g c = let m = c.insert_reserved.ensures in let key = g.K.Key.data_of c.insert_reserved.result in
    node_seen c.self.invariant.out m.inserts c.capacity.ensures.valid m.valid.after m.bound m.within key
    ∙ at_none c.self.inside.nodes.live c.self.inside.edges.live c.self.inside.out key (ap is_some m.fresh)

pub returns-clause-none_into : goal.returns-clause-none_into
returns-clause-none_into g c = let m = c.insert_reserved.ensures in let key = g.K.Key.data_of c.insert_reserved.result in
    node_seen c.self.invariant.into m.inserts c.capacity.ensures.valid m.valid.after m.bound m.within key
    ∙ at_none c.self.inside.nodes.live c.self.inside.edges.live c.self.inside.into key (ap is_some m.fresh)
