use Rattle.std.proofs.Common.{rules, sym, ◌∙◌}
use Rattle.std.proofs.lemmas.Bool.{false≢true}
use Rattle.std.proofs.lemmas.Str.Pattern.{starts_char}
use Rattle.slotmap_script.proofs.Numerals.{signed_is, no_plus}
use Rattle.slotmap_script.proofs.commands.number.Goals as goal

pub returns-then-starts_with : goal.returns-then-starts_with
returns-then-starts_with c =
    let word = c.args.word.now in
    let starts = starts_char 43 word _ c.starts_with.ensures.cases (search rules) (search rules) in
    sym (no_plus word (starts.0 c.if-starts_with.true))

pub returns : goal.returns
returns c =
    let word = c.args.word.now in
    let starts = starts_char 43 word _ c.starts_with.ensures.cases (search rules) (search rules) in
    c.ok.ensures.value ∙ signed_is word c.parse.result c.parse.ensures.value.0 (λ e. false≢true (sym c.if-starts_with.false ∙ starts.1 e))
