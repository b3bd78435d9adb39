use Rattle.std.proofs.Common.{◌≡◌, ◌<◌, [], ℕ}
use Rattle.slotmap_lists.specs.Sequences.{elements_of}
use Rattle.lists_callers.proofs.queues.take_next.Given as goal

-- the lists of the priorities that were passed are empty
abbrev pub invariant-loop-priority : goal.invariant-loop-priority
invariant-loop-priority l = (l.queue ≡ l.fn.queue) × ((q : ℕ) → q < l.priority → elements_of q l.queue.lists ≡ [])
