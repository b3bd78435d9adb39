use Rattle.slotmap_graph.proofs.Common.{◌∙◌, [], true, ap, arith, is_some, length, length-replicate, key_cmp, left_spent, spent_leaves, list_cleared, list_of, Lists, from, to, SeenEdge}
use Rattle.slotmap_graph.proofs.GraphSteps.{bare_seen, bare_threaded}
use Rattle.std.specs.FinMap as map
use Rattle.slotmap_graph.proofs.Graph.clear.Goals as goal

pub invariant_of-self : goal.invariant_of-self
invariant_of-self g c = record {
  out = bare_threaded from c.clear.new.self c.clear-2.new.self c.clear-3.new.self c.clear.ensures.empty c.clear-2.ensures.empty
      (λ p. ap (λ l. list_of l p) c.clear-3.ensures ∙ list_cleared c.self.inside.out p)
      (omega (arith, c.clear.ensures.bound, ap (λ (l : Lists). length l.lists) c.clear-3.ensures ∙ length-replicate (length c.self.inside.out.lists) [], c.self.invariant.out.owners))
      (omega (arith, c.clear-2.ensures.bound, ap (λ (l : Lists). l.members) c.clear-3.ensures, c.self.invariant.out.members));
  into = bare_threaded to c.clear.new.self c.clear-2.new.self c.clear-4.new.self c.clear.ensures.empty c.clear-2.ensures.empty
      (λ p. ap (λ l. list_of l p) c.clear-4.ensures ∙ list_cleared c.self.inside.into p)
      (omega (arith, c.clear.ensures.bound, ap (λ (l : Lists). length l.lists) c.clear-4.ensures ∙ length-replicate (length c.self.inside.into.lists) [], c.self.invariant.into.owners))
      (omega (arith, c.clear-2.ensures.bound, ap (λ (l : Lists). l.members) c.clear-4.ensures, c.self.invariant.into.members));
}

pub returns-clause-for_good : goal.returns-clause-for_good
returns-clause-for_good g c k live = let none = ap (λ m. map.contains_key m k) c.clear.ensures.empty ∙ ap is_some (map.get-empty {X = g.row.N.Denot} key_cmp k) in
    left_spent c.self.inside.nodes c.clear.new.self true c.clear.ensures.valid.before k c.clear.ensures.leaves (rw (← c.self.view_is) at live) none

pub returns-clause-edges_for_good : goal.returns-clause-edges_for_good
returns-clause-edges_for_good g c k live = let none = ap (λ m. map.contains_key m k) c.clear-2.ensures.empty ∙ ap is_some (map.get-empty {X = SeenEdge g.row.E.Denot} key_cmp k) in
    left_spent c.self.inside.edges c.clear-2.new.self true c.clear-2.ensures.valid.before k c.clear-2.ensures.leaves (rw (← c.self.view_is) at live) none

pub returns-clause-gone : goal.returns-clause-gone
returns-clause-gone g c = rw (← c.self.view_is) (spent_leaves _ _ c.clear.ensures.leaves)

pub returns-clause-edges_gone : goal.returns-clause-edges_gone
returns-clause-edges_gone g c = rw (← c.self.view_is) (spent_leaves _ _ c.clear-2.ensures.leaves)

pub returns-clause-out : goal.returns-clause-out
returns-clause-out g c k = bare_seen from c.clear.new.self c.clear-2.new.self c.clear-3.new.self c.clear.ensures.empty c.clear-2.ensures.empty k

pub returns-clause-into : goal.returns-clause-into
returns-clause-into g c k = bare_seen to c.clear.new.self c.clear-2.new.self c.clear-4.new.self c.clear.ensures.empty c.clear-2.ensures.empty k
