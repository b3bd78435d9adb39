use Rattle.std.proofs.Common.{◌≢◌}
use Rattle.slotmap_list.specs.Sequence.{IsOnce}
use Rattle.slotmap_list.proofs.Looks.{Looks}
use Rattle.list_callers.proofs.cursors.find.Given as goal

-- no element that was passed has the value
abbrev pub invariant-loop-cursor : goal.invariant-loop-cursor
invariant-loop-cursor l =
    goal.iterator-loop-cursor.can_next l.cursor-iterator
    × goal.iterator-loop-cursor.is_finite l.cursor-iterator
    × Looks l.list.elements l.cursor-iterator (λ v. v ≢ l.wanted)
    × IsOnce l.list.elements
