use Rattle.std.proofs.Common.{◌++◌, map, length}
use Rattle.slotmap_script.specs.ScriptText.{stretches_from, stretch_of}
use Rattle.slotmap_script.proofs.Lines.{Parsed}
use Rattle.slotmap_script.proofs.script.parse_lines.Given as goal

-- the lines before rest are in the stretches and the commands
abbrev pub invariant-loop-rest : goal.invariant-loop-rest
invariant-loop-rest g l = Parsed g.C.Commands.command_of l.fn.script l.rest l.number
    (λ said. map stretch_of l.fn.stretches.items ++ stretches_from l.fn.commands.items said)
    (λ said. map stretch_of l.stretches.items ++ stretches_from l.commands.items said)

abbrev pub decreases-loop-rest : goal.decreases-loop-rest
decreases-loop-rest g l = length l.rest
