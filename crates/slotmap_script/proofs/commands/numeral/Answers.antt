use Rattle.std.proofs.Common.{◌≡◌, ◌^◌, rules, tests, sym, ◌∙◌, true, false}
use Rattle.std.specs.{Str.all_ascii_digits, Char.is_ascii_digit}
use Rattle.std.proofs.lemmas.Iterator.{Adapters.YieldsList-from_bytes, Search.all_from_yields_List}
use Rattle.slotmap_script.proofs.Numerals.{all_digits_is, no_digits, unsigned_is}
use Rattle.slotmap_script.proofs.commands.numeral.Goals as goal

pub returns-then-not-all : goal.returns-then-not-all
returns-then-not-all c =
    let word = c.args.word.now in
    let tested = all_from_yields_List is_ascii_digit _ _ c.all.result c.all.ensures.ran (YieldsList-from_bytes word c.bytes.ensures.rest) (λ x b q k. search (rules, tests)) in
    let other : all_ascii_digits word ≡ false = sym (all_digits_is word) ∙ sym tested ∙ c.if-not-all.true in
    sym (no_digits (2 ^ 64) word other)

pub returns : goal.returns
returns c =
    let word = c.args.word.now in
    let tested = all_from_yields_List is_ascii_digit _ _ c.all.result c.all.ensures.ran (YieldsList-from_bytes word c.bytes.ensures.rest) (λ x b q k. search (rules, tests)) in
    let digits : all_ascii_digits word ≡ true = sym (all_digits_is word) ∙ sym tested ∙ c.if-not-all.false in
    c.ok.ensures.value ∙ unsigned_is 64 word c.parse.result c.parse.ensures.value.0 digits
