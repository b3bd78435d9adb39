use Rattle.std.proofs.Common.{◌≡◌, Err, rules}
use Rattle.slotmap_core.specs.Words.{IsNew}
use Rattle.slotmap_script.specs.Kinds.{kind_of}
use Rattle.slotmap_script.proofs.Ending.{stops_parsed, are_read}
use Rattle.slotmap_script.proofs.run.run_on.Goals as goal

pub returns-in_err-stretches-clause-err : goal.returns-in_err-stretches-clause-err
returns-in_err-stretches-clause-err g c =
    let refused : c.from_residual.result ≡ Err c.in_err-stretches.field-0.0 = search rules in
    let kind = kind_of g.C.Commands.command_of g.C.Commands.replies_to g.M.Listed.lists (λ map. IsNew (g.M.Primary.content map)) in
    let known = g.R.Read.remaining c.args.input.now in
    let why = c.in_err-stretches.field-0.0 in
    let read = are_read known _ _ c.deref.result.now c.in-Ok.ensures.bytes c.new-script.ensures.items c.deref.ensures.value in
    rw refused (stops_parsed kind known (g.W.Write.contents c.args.output.now) c.deref.result.now read why c.in_err-stretches.ensures.err)
