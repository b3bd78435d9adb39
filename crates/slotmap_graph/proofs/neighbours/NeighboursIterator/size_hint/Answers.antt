use Rattle.slotmap_graph.proofs.Common.{arith, length-map, far_end, key_at, keys_at}
use Rattle.slotmap_graph.proofs.Adjacent.{ends_less}
use Rattle.slotmap_graph.proofs.neighbours.NeighboursIterator.size_hint.Goals as goal

pub returns-clause-upper : goal.returns-clause-upper
returns-clause-upper g c = let live =
    c.self.inside.edges.now.live in (
      tt,
      rw (← c.self.view_is, c.len.ensures.value)
          (omega (arith, ends_less (far_end c.self.inside.direction) live (keys_at live c.self.inside.members), length-map c.self.inside.members (key_at live))),
    )
