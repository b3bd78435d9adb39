use Rattle.slotmap_entities.proofs.Common.{length, get, both_found_by}
use Rattle.std.proofs.Common.{◌≡◌}
use Rattle.slotmap_entities.proofs.join.WithBothIterator.next.Given as goal

-- the keys that were passed lack a component
abbrev pub invariant-loop-key : goal.invariant-loop-key
invariant-loop-key g l =
    l.fn.self ≡ both_found_by (get (g.A.Table.pairs l.self-inside.first.now)) (get (g.B.Table.pairs l.self-inside.second.now)) l.self-inside.keys

abbrev pub decreases-loop-key : goal.decreases-loop-key
decreases-loop-key g l = length l.self-inside.keys
