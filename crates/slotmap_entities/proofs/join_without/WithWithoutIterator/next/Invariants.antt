use Rattle.slotmap_entities.proofs.Common.{length, contains_key, get, found_without}
use Rattle.std.proofs.Common.{◌≡◌}
use Rattle.slotmap_entities.proofs.join_without.WithWithoutIterator.next.Given as goal

-- the keys that were passed lack the one component, or have the other
abbrev pub invariant-loop-key : goal.invariant-loop-key
invariant-loop-key g l = l.fn.self ≡ found_without (contains_key (g.B.Table.pairs l.self-inside.without.now)) (get (g.A.Table.pairs l.self-inside.table.now)) l.self-inside.keys

abbrev pub decreases-loop-key : goal.decreases-loop-key
decreases-loop-key g l = length l.self-inside.keys
