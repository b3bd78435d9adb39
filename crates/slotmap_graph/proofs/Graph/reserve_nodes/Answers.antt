use Rattle.slotmap_graph.proofs.Common.{refl, arith}
use Rattle.slotmap_bounded.proofs.Alone.{bound_grows}
use Rattle.slotmap_graph.proofs.GraphSteps.{covered_seen, covered_threaded, grown, grown_seen}
use Rattle.slotmap_graph.proofs.Graph.reserve_nodes.Goals as goal

pub returns-in_err-cover_both-clause-out : goal.returns-in_err-cover_both-clause-out
returns-in_err-cover_both-clause-out g c = rw (← c.self.view_is) (covered_seen c.self.invariant.out c.cover_both.ensures.out)

pub returns-in_err-cover_both-clause-into : goal.returns-in_err-cover_both-clause-into
returns-in_err-cover_both-clause-into g c = rw (← c.self.view_is) (covered_seen c.self.invariant.into c.cover_both.ensures.into)

pub invariant_of-self : goal.invariant_of-self
invariant_of-self g c = record { out = covered_threaded c.self.invariant.out c.cover_both.ensures.out; into = covered_threaded c.self.invariant.into c.cover_both.ensures.into }

pub invariant_of-self-2 : goal.invariant_of-self-2
invariant_of-self-2 g c = let m = c.reserve.ensures.makes_room in let was = c.in_ok-node.ensures.value in record {
  out = (let cover = c.in_ok-cover_both.ensures.out_covers in
      grown c.self.invariant.out c.reserve.new.self c.self.inside.edges m.keeps.live refl (bound_grows m.keeps) (omega arith)
      c.cover_both.ensures.out (omega (arith, cover.0)) (omega (arith, cover.1)));
  into = (let cover = c.in_ok-cover_both.ensures.into_covers in
      grown c.self.invariant.into c.reserve.new.self c.self.inside.edges m.keeps.live refl (bound_grows m.keeps) (omega arith)
      c.cover_both.ensures.into (omega (arith, cover.0)) (omega (arith, cover.1)));
}

pub returns-clause-out : goal.returns-clause-out
returns-clause-out g c = let m = c.reserve.ensures.makes_room in
    rw (← c.self.view_is) (grown_seen c.self.invariant.out c.reserve.new.self c.self.inside.edges m.keeps.live refl (bound_grows m.keeps) (omega arith) c.cover_both.ensures.out)

pub returns-clause-into : goal.returns-clause-into
returns-clause-into g c = let m = c.reserve.ensures.makes_room in
    rw (← c.self.view_is) (grown_seen c.self.invariant.into c.reserve.new.self c.self.inside.edges m.keeps.live refl (bound_grows m.keeps) (omega arith) c.cover_both.ensures.into)
