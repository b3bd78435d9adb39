use Rattle.std.proofs.Common.{◌+◌, eqb, add-one, rules, tests}
use Rattle.std.proofs.lemmas.Iterator.{YieldsList-from_slice}
use Rattle.std.proofs.lemmas.Iterator.Search.{position_from_yields_List}
use Rattle.slotmap_script.proofs.Lines.{lines_first, lines_last, found_at, not_found, take_rest}
use Rattle.slotmap_script.proofs.script.split_line.Goals as goal

pub returns-in-Some-clause-lines : goal.returns-in-Some-clause-lines
returns-in-Some-clause-lines c =
    let text = c.args.text.now in
    let found = position_from_yields_List (λ b. eqb b 10) _ _ c.position.result c.position.ensures.ran (YieldsList-from_slice text c.iter.ensures.rest) (λ x b q k. search (rules, tests)) in
    let at = found_at _ _ c.in-Some.end c.position.result found c.in-Some.is in
    rw (take_rest (c.in-Some.end + 1) text, add-one c.in-Some.end, ← at.1) (lines_first text at.0)

pub returns-in-None-clause-lines : goal.returns-in-None-clause-lines
returns-in-None-clause-lines c =
    let text = c.args.text.now in
    let found = position_from_yields_List (λ b. eqb b 10) _ _ c.position.result c.position.ensures.ran (YieldsList-from_slice text c.iter.ensures.rest) (λ x b q k. search (rules, tests)) in
    lines_last text c.requires (not_found _ _ c.position.result found c.in-None.is)
