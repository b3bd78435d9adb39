use Rattle.std.proofs.Common.{refl}
use Rattle.slotmap_script.proofs.Outcomes.{broken}
use Rattle.slotmap_script.proofs.run.print_end.Goals as goal

pub returns-in-Slots-clause-err : goal.returns-in-Slots-clause-err
returns-in-Slots-clause-err g c = rw (c.in-Slots.is) (broken _ _ (λ told. (told.0, c.args.map.now, (refl, told.1), told.2)) c.write_slots.result c.write_slots.ensures.err)

pub returns-in-Load-clause-err : goal.returns-in-Load-clause-err
returns-in-Load-clause-err g c = rw (c.in-Load.is) c.load.ensures.err
