use Rattle.slotmap_lists.proofs.Common.{length, elements_of}
use Rattle.slotmap_lists.proofs.Clearing.{Joining}
use Rattle.slotmap_lists.proofs.StableLists.append.Given as goal

abbrev pub invariant-loop-cursor : goal.invariant-loop-cursor
invariant-loop-cursor g l = Joining l.fn.self l.fn.list l.fn.other l.self

abbrev pub decreases-loop-cursor : goal.decreases-loop-cursor
decreases-loop-cursor g l = length (elements_of l.fn.other l.self.lists)
