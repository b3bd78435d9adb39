use Rattle.std.proofs.Common.{ap, sym, ◌∙◌}
use Rattle.std.specs.Prelude.{option_map}
use Rattle.slotmap_script.specs.ScriptText.{said_of}
use Rattle.slotmap_script.proofs.Lines.{parsed_none, parsed_more}
use Rattle.slotmap_script.proofs.script.parse_lines.Goals as goal

pub loop-rest-init : goal.loop-rest-init
loop-rest-init g c = parsed_none g.C.Commands.command_of c.args.script.now _

pub loop-rest-preserved : goal.loop-rest-preserved
loop-rest-preserved g c =
    let split = c.split_line.result in
    parsed_more g.C.Commands.command_of c.loop-rest.invariant split.0.now split.1.now (said_of c.in-Some.line) _ c.split_line.ensures.lines c.split_line.ensures.shorter
    (sym c.parse_line.ensures ∙ ap (option_map said_of) c.in-Some.is) c.in_ok-add_line.ensures.ok
