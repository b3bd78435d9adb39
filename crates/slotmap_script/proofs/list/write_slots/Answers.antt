use Rattle.std.proofs.Common.{ap, inl, inr, refl}
use Rattle.slotmap_script.specs.ListText.{slots_text}
use Rattle.slotmap_script.proofs.Outcomes.{broken}
use Rattle.slotmap_script.proofs.list.write_slots.Goals as goal

pub returns-in_default-clause-err : goal.returns-in_default-clause-err
returns-in_default-clause-err g c = broken _ _ (λ begun. (_, inr refl, begun)) c.write_text.result c.write_text.ensures.err

pub returns-in_default-with_capacity-clause-err : goal.returns-in_default-with_capacity-clause-err
returns-in_default-with_capacity-clause-err g c =
    broken _ _ (λ begun. (_, inr refl, begun)) c.write_text-in_default-with_capacity.result c.write_text-in_default-with_capacity.ensures.err

pub returns-clause-err : goal.returns-clause-err
returns-clause-err g c = broken _ _ (λ begun. (_, inl (c.in-Ok.slots.items, c.in-Ok.ensures, ap slots_text c.deref.ensures.value), begun)) c.write_list.result c.write_list.ensures.err
