use Rattle.slotmap_graph.proofs.Common.{◌∙◌, length, sym, ap, arith, front_has, front_key, ends_along, far_end, keys_at}
use Rattle.std.proofs.Common.{◌∷◌}
use Rattle.slotmap_graph.proofs.Adjacent.{first_end}
use Rattle.slotmap_graph.proofs.neighbours.NeighboursIterator.next.Goals as goal

pub live_key-key-requires : goal.live_key-key-requires
live_key-key-requires g c = front_has c.self.invariant.1 c.in_ok-index.ensures.steps

pub returns-clause-steps : goal.returns-clause-steps
returns-clause-steps g c = let live = c.self.inside.edges.now.live in let end = far_end c.self.inside.direction in let rest = keys_at live c.next.new.self in let key = c.live_key-key in
    sym c.self.view_is ∙ ap (ends_along end live) (front_key c.self.invariant.0 key.result key.ensures.live key.ensures.index c.in_ok-index.ensures.steps)
    ∙ first_end end live key.result c.value.result.now rest c.value.ensures ∙ ap (λ k. k ∷ ends_along end live rest) (sym (c.outer.ensures ∙ c.far_end.ensures))

pub returns-clause-goes : goal.returns-clause-goes
returns-clause-goes g c = record { on = λ _. (tt, tt, omega (arith, ap length (returns-clause-steps g c))); keeps = tt; rests = λ _. tt }
