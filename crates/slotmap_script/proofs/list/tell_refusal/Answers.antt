use Rattle.std.proofs.Common.{inr, refl}
use Rattle.slotmap_script.proofs.Outcomes.{broken}
use Rattle.slotmap_script.proofs.list.tell_refusal.Goals as goal

pub returns-clause-err : goal.returns-clause-err
returns-clause-err g c = broken _ _ (λ begun. (_, inr refl, begun)) c.write_text-in-Err.result c.write_text-in-Err.ensures.err
