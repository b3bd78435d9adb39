use Rattle.std.proofs.Common.{◌≡◌, ◌+◌}
use Rattle.slotmap_secondary.proofs.Common.{values_in, length}
use Rattle.slotmap_secondary.proofs.iter.ValuesIterator.next.Given as goal

-- only vacant slots were skipped
abbrev pub invariant-loop-value : goal.invariant-loop-value
invariant-loop-value g l =
    (l.self-inside.left + 1 ≡ length (values_in l.self-inside.slots.now))
    × (values_in l.self-inside.slots.now ≡ l.fn.self)

abbrev pub decreases-loop-value : goal.decreases-loop-value
decreases-loop-value g l = length l.self-inside.slots.now
