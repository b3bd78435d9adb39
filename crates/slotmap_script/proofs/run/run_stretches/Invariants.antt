use Rattle.std.proofs.Common.{ℕ, List, map}
use Rattle.std.specs.Io.KnownBytes.{Appends}
use Rattle.slotmap_script.specs.{ScriptText.stretch_of, Printed.Prints}
use Rattle.slotmap_script.proofs.run.run_stretches.Given as goal

-- the stretches so far are printed
abbrev pub invariant-loop-stretch : goal.invariant-loop-stretch
invariant-loop-stretch g l =
    (goal.iterator-loop-stretch g).can_next l.stretch-iterator × (goal.iterator-loop-stretch g).is_finite l.stretch-iterator
    × ((text : List ℕ) × Prints g.C.Commands.replies_to g.M.Listed.lists (map stretch_of l.yielded) l.fn.map text l.map
    × Appends (g.W.Write.contents l.fn.output) (g.W.Write.contents l.output) text)
