use Rattle.std.proofs.Common.{length, ap, arith}
use Rattle.slotmap_list.proofs.Parts.{elements_long}
use Rattle.slotmap_list.proofs.rest.IterFromIterator.size_hint.Goals as goal

pub returns-clause-upper : goal.returns-clause-upper
returns-clause-upper g c = (tt, omega (arith, c.self.invariant.few, elements_long _ c.self.invariant.indices, ap length c.self.view_is))
