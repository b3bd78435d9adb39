use Rattle.std.proofs.Common.{◌≡◌, ◌++◌, Err, rules}
use Rattle.std.specs.Io.KnownBytes.{Appends}
use Rattle.slotmap_script.specs.ScriptText.{stretch_of}
use Rattle.slotmap_script.proofs.Appending.{Appends-trans}
use Rattle.slotmap_script.proofs.Outcomes.{on_error, on_success}
use Rattle.slotmap_script.proofs.Printing.{end_broken, replies_broken, stretch_printed}
use Rattle.slotmap_script.proofs.run.print_stretch.Goals as goal

pub returns-in_err-write_text-clause-err : goal.returns-in_err-write_text-clause-err
returns-in_err-write_text-clause-err g c =
    let contents = g.W.Write.contents in
    let why = c.in_err-write_text.field-0.0 in
    let refused : c.from_residual.result ≡ Err why = search rules in
    let begun = rw (c.deref.ensures.value) at c.in_err-write_text.ensures.err.1 in
    rw (refused, c.in_err-write_text.ensures.err.0) (
    replies_broken g.C.Commands.replies_to g.M.Listed.lists (stretch_of c.args.stretch) c.args.map.now c.reply_text.new.map c.in-Some.text.items
    (Appends (contents c.args.output.now) (contents c.write_text.new.output)) c.in-Some.ensures begun
    )

pub returns-clause-ok : goal.returns-clause-ok
returns-clause-ok g c =
    let told = c.in-Some.text.items in
    let written = rw (c.deref.ensures.value) at c.in_ok-write_text.ensures.ok in
    on_success _ _
    (λ last. (
      told ++ last.0,
      stretch_printed g.C.Commands.replies_to g.M.Listed.lists (stretch_of c.args.stretch) c.args.map.now c.reply_text.new.map c.print_end.new.map told last.0 c.in-Some.ensures last.1,
      Appends-trans _ _ _ told last.0 written last.2,
    ))
    c.print_end.result c.print_end.ensures.ok

pub returns-clause-err : goal.returns-clause-err
returns-clause-err g c =
    let contents = g.W.Write.contents in
    let told = c.in-Some.text.items in
    let written = rw (c.deref.ensures.value) at c.in_ok-write_text.ensures.ok in
    on_error _ _
    (λ why. end_broken g.C.Commands.replies_to g.M.Listed.lists (stretch_of c.args.stretch) c.args.map.now c.reply_text.new.map told
    (contents c.args.output.now) (contents c.write_text.new.output) (contents c.print_end.new.output) why c.in-Some.ensures written)
    c.print_end.result c.print_end.ensures.err
