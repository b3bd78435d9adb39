use Rattle.std.proofs.Common.{inl, refl}
use Rattle.slotmap_script.proofs.Outcomes.{broken, on_success}
use Rattle.slotmap_script.proofs.Printing.{told_reason}
use Rattle.slotmap_script.proofs.list.load.Goals as goal

pub returns-in-Ok-clause-err : goal.returns-in-Ok-clause-err
returns-in-Ok-clause-err g c =
    let (slots, reads) = c.in-Ok.ensures.ok in
    broken _ _ (λ begun. (_, c.in-Ok.read, inl (slots, reads, refl), begun)) c.write_text.result c.write_text.ensures.err

pub returns-in-Err-clause-ok : goal.returns-in-Err-clause-ok
returns-in-Err-clause-ok g c = on_success _ _
    (λ told. (told.0, told_reason g.M.Listed.lists c.args.map.now c.in-Err.error told.0 c.in-Err.ensures.err told.1, told.2)) c.tell_refusal.result c.tell_refusal.ensures.ok

pub returns-in-Err-clause-err : goal.returns-in-Err-clause-err
returns-in-Err-clause-err g c = broken _ _
    (λ told. (told.0, c.args.map.now, told_reason g.M.Listed.lists c.args.map.now c.in-Err.error told.0 c.in-Err.ensures.err told.1, told.2)) c.tell_refusal.result c.tell_refusal.ensures.err
