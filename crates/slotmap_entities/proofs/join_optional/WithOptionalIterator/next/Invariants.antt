use Rattle.slotmap_entities.proofs.Common.{length, get, optional_found_by}
use Rattle.std.proofs.Common.{◌≡◌}
use Rattle.slotmap_entities.proofs.join_optional.WithOptionalIterator.next.Given as goal

-- the keys that were passed lack the component
abbrev pub invariant-loop-key : goal.invariant-loop-key
invariant-loop-key g l =
    l.fn.self ≡ optional_found_by (get (g.A.Table.pairs l.self-inside.table.now)) (get (g.B.Table.pairs l.self-inside.optional.now)) l.self-inside.keys

abbrev pub decreases-loop-key : goal.decreases-loop-key
decreases-loop-key g l = length l.self-inside.keys
