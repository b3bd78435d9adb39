use Rattle.slotmap_dense.proofs.Common.{Taken-start, Taken-next, arith}
use Rattle.std.proofs.lemmas.Grind.{common_steps}
use Rattle.slotmap_dense.proofs.DenseSlotMap.clear.Goals as goal

pub loop-pair-init : goal.loop-pair-init
loop-pair-init g c = Taken-start _ c.note_valid.ensures

pub loop-pair-preserved : goal.loop-pair-preserved
loop-pair-preserved g c =
    Taken-next g.K.Key.data_of _ c.loop-pair.self c.take_last.new.self c.in-Some._pair c.loop-pair.invariant c.in-Some.ensures.takes c.in-Some.ensures.valid.capacity c.in-Some.ensures.valid.after

pub loop-pair-smaller : goal.loop-pair-smaller
loop-pair-smaller g c = grind (arith, common_steps)

pub returns-clause-none : goal.returns-clause-none
returns-clause-none g c = grind (arith, common_steps)
