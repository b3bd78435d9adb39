use Rattle.slotmap_links.proofs.Common.{◌∙◌, ap, sym, length, arith, tail_is}
use Rattle.slotmap_links.proofs.iter.MembersFromIterator.size_hint.Goals as goal

pub returns-clause-upper : goal.returns-clause-upper
returns-clause-upper c = let long = ap length (sym c.self.view_is ∙ tail_is c.self.invariant) in let few = c.self.invariant.few in (tt, omega (arith, long, few))
