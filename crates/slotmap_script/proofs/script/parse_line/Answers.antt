use Rattle.std.proofs.Common.{ap, sym, ◌∙◌}
use Rattle.slotmap_script.specs.ScriptText.{said_by_text}
use Rattle.slotmap_script.proofs.Lines.{said_utf8, said_none}
use Rattle.slotmap_script.proofs.script.parse_line.Goals as goal

pub returns-in-Ok : goal.returns-in-Ok
returns-in-Ok g c =
    let command_of = g.C.Commands.command_of in
    let is = c.in-Ok.ensures.cases in
    c.parse_text.ensures ∙ ap (said_by_text command_of) is.0 ∙ sym (said_utf8 command_of c.args.bytes.now is.1)

pub returns-in-Err : goal.returns-in-Err
returns-in-Err g c = sym (said_none g.C.Commands.command_of c.args.bytes.now c.in-Err.ensures.cases.0)
