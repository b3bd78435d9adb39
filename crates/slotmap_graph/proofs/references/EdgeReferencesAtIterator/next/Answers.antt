use Rattle.slotmap_graph.proofs.Common.{◌∙◌, length, sym, ap, arith, front_has, front_key, entries_along, keys_at, SeenEdge, Key}
use Rattle.std.proofs.Common.{◌≡◌, ◌∷◌}
use Rattle.slotmap_graph.proofs.Adjacent.{first_entry}
use Rattle.slotmap_graph.proofs.references.EdgeReferencesAtIterator.next.Goals.{After-outer-2}
use Rattle.slotmap_graph.proofs.references.EdgeReferencesAtIterator.next.Goals as goal

pub live_key-key-requires : goal.live_key-key-requires
live_key-key-requires g c = front_has c.self.invariant.1 c.in_ok-index.ensures.steps

-- the edge, by its ends and its value as they are returned
edge : (g : _) (c : After-outer-2 g) → c.value-edge.result.now ≡ record { from = g.K.Key.data_of c.outer.result; to = g.K.Key.data_of c.outer-2.result; value = c.value-value.result.now }
edge g c =
    let from : c.value-edge.result.now.from ≡ g.K.Key.data_of c.outer.result = sym (c.outer.ensures ∙ ap (λ (p : Key × Key). p.0) c.ends-from.ensures) in
    let to : c.value-edge.result.now.to ≡ g.K.Key.data_of c.outer-2.result = sym (c.outer-2.ensures ∙ ap (λ (p : Key × Key). p.1) c.ends-from.ensures) in
    λ i. record { from = from i; to = to i; value = sym c.value-value.ensures i }

pub returns-clause-steps : goal.returns-clause-steps
returns-clause-steps g c = let live = c.self.inside.edges.now.live in let rest = keys_at live c.next.new.self in let key = c.live_key-key in sym c.self.view_is
    ∙ ap (entries_along live) (front_key c.self.invariant.0 key.result key.ensures.live key.ensures.index c.in_ok-index.ensures.steps)
    ∙ first_entry live key.result c.value-edge.result.now rest c.value-edge.ensures ∙ ap (λ (e : SeenEdge g.row.E.Denot). (key.result, e) ∷ entries_along live rest) (edge g c)

pub returns-clause-goes : goal.returns-clause-goes
returns-clause-goes g c = record { on = λ _. (tt, tt, omega (arith, ap length (returns-clause-steps g c))); keeps = tt; rests = λ _. tt }
