use Rattle.slotmap_graph.proofs.Common.{true, is_some, ap, sym, from, to, leaves_by_removal, removed_spent, spent_removes}
use Rattle.slotmap_graph.proofs.Adjacent.{absent_unlisted}
use Rattle.slotmap_graph.proofs.Threaded.{left_seen, left_threaded, lists, owner_within}
use Rattle.slotmap_graph.proofs.Graph.remove_edge.Goals as goal

pub returns-in_err-removed-clause-out : goal.returns-in_err-removed-clause-out
returns-in_err-removed-clause-out g c k = rw (c.in_err-removed.ensures.unchanged, ← c.self.view_is)
    (sym (absent_unlisted from c.self.inside.edges.live c.args.edge (sym c.in_err-removed.ensures.value) k _ (lists c.self.invariant.out k)))

pub returns-in_err-removed-clause-into : goal.returns-in_err-removed-clause-into
returns-in_err-removed-clause-into g c k = rw (c.in_err-removed.ensures.unchanged, ← c.self.view_is)
    (sym (absent_unlisted to c.self.inside.edges.live c.args.edge (sym c.in_err-removed.ensures.value) k _ (lists c.self.invariant.into k)))

pub take_out-requires-clause-node : goal.take_out-requires-clause-node
take_out-requires-clause-node g c = rw c.ends-from.ensures (owner_within c.self.invariant.out _ (c.self.invariant.out.ends c.args.edge _ (sym c.in_ok-removed.ensures.value)))

pub take_out-requires-2-clause-node : goal.take_out-requires-2-clause-node
take_out-requires-2-clause-node g c = rw c.ends-from.ensures (owner_within c.self.invariant.into _ (c.self.invariant.into.ends c.args.edge _ (sym c.in_ok-removed.ensures.value)))

pub invariant_of-self-2 : goal.invariant_of-self-2
invariant_of-self-2 g c = record {
  out = left_threaded c.self.invariant.out c.args.edge (sym c.in_ok-removed.ensures.value) c.remove.new.self c.remove.ensures.live c.remove.ensures.bound
      (rw c.ends-from.ensures at c.take_out.ensures.list) c.take_out.ensures.disjoint;
  into = left_threaded c.self.invariant.into c.args.edge (sym c.in_ok-removed.ensures.value) c.remove.new.self c.remove.ensures.live c.remove.ensures.bound
      (rw c.ends-from.ensures at c.take_out-2.ensures.list) c.take_out-2.ensures.disjoint;
}

pub returns-clause-for_good : goal.returns-clause-for_good
returns-clause-for_good g c = removed_spent _ _ true c.remove.ensures.valid.before c.args.edge (ap is_some (sym c.in_ok-removed.ensures.value)) c.in_ok-removed.ensures.removes

pub returns-clause-leaves : goal.returns-clause-leaves
returns-clause-leaves g c = rw (← c.self.view_is) (leaves_by_removal true _ c.remove.ensures.valid.before c.args.edge (ap is_some (sym c.in_ok-removed.ensures.value)) _
    c.in_ok-removed.ensures.removes)

pub returns-clause-gone : goal.returns-clause-gone
returns-clause-gone g c = rw (← c.self.view_is) (spent_removes _ _ true c.remove.ensures.valid.before c.args.edge (ap is_some (sym c.in_ok-removed.ensures.value)) c.in_ok-removed.ensures.removes)

pub returns-clause-out : goal.returns-clause-out
returns-clause-out g c = rw (← c.self.view_is)
    (left_seen c.self.invariant.out c.args.edge (sym c.in_ok-removed.ensures.value) c.remove.new.self c.remove.ensures.live c.remove.ensures.bound
    (rw c.ends-from.ensures at c.take_out.ensures.list))

pub returns-clause-into : goal.returns-clause-into
returns-clause-into g c = rw (← c.self.view_is)
    (left_seen c.self.invariant.into c.args.edge (sym c.in_ok-removed.ensures.value) c.remove.new.self c.remove.ensures.live c.remove.ensures.bound
    (rw c.ends-from.ensures at c.take_out-2.ensures.list))
