use Rattle.std.proofs.Common.{ap, sym, ◌∙◌, lit<, arith}
use Rattle.std.proofs.lemmas.Iterator.{Splits.YieldsList-from_str_split, Consumers.YieldsList-turn, Consumers.YieldsList-end}
use Rattle.slotmap_script.specs.ScriptText.{words_of}
use Rattle.slotmap_script.proofs.script.parse_command.Goals as goal

pub returns-then-count-eq3 : goal.returns-then-count-eq3
returns-then-count-eq3 g c =
    let text = c.args.text.now in
    let turn = YieldsList-turn (YieldsList-from_str_split 32 text (lit< tt) (cc) (cc) (cc)) c.loop-word.yielded _ c.loop-word.yielded_by _ _ c.in-Some.word c.in-Some.is c.next.ensures.steps in
    sym (g.met.C.Commands.at_most_three (words_of text) (omega (arith, turn.0)))

pub returns : goal.returns
returns g c =
    let text = c.args.text.now in
    let end = YieldsList-end (YieldsList-from_str_split 32 text (lit< tt) (cc) (cc) (cc)) c.loop-word.yielded _ c.loop-word.yielded_by _ _ c.in-None.is c.next.ensures.steps in
    c.from_words.ensures ∙ ap g.C.Commands.command_of (c.loop-word.invariant.5 ∙ end.0)
