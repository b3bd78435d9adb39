use Rattle.slotmap_secondary.proofs.Common.{common_steps, arith, marked-read, at-read, entry-at}
use Rattle.slotmap_secondary.proofs.SecondaryMap.find_in.Goals as goal

pub find-requires-clause-marked : goal.find-requires-clause-marked
find-requires-clause-marked g c = grind (arith, marked-read c.self.inside.slots.items)

pub returns-clause-found : goal.returns-clause-found
returns-clause-found g c = grind (arith, common_steps, at-read, entry-at)
