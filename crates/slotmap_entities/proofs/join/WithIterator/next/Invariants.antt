use Rattle.slotmap_entities.proofs.Common.{length, get, found_by}
use Rattle.std.proofs.Common.{◌≡◌}
use Rattle.slotmap_entities.proofs.join.WithIterator.next.Given as goal

-- the keys that were passed have no component
abbrev pub invariant-loop-key : goal.invariant-loop-key
invariant-loop-key g l = l.fn.self ≡ found_by (get (g.M.Table.pairs l.self-inside.table.now)) l.self-inside.keys

abbrev pub decreases-loop-key : goal.decreases-loop-key
decreases-loop-key g l = length l.self-inside.keys
