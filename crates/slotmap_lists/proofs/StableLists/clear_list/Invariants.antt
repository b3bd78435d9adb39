use Rattle.slotmap_lists.proofs.Common.{length, elements_of}
use Rattle.slotmap_lists.proofs.Clearing.{Clearing}
use Rattle.slotmap_lists.proofs.StableLists.clear_list.Given as goal

abbrev pub invariant-loop : goal.invariant-loop
invariant-loop g l = Clearing l.fn.self l.fn.list l.self

abbrev pub decreases-loop : goal.decreases-loop
decreases-loop g l = length (elements_of l.fn.list l.self.lists)
