use Rattle.slotmap_secondary.proofs.Common.{value_at, common_steps, arith, at-read, at-past, marked-read, well_formed}
use Rattle.slotmap_secondary.proofs.SecondaryMap.contains_key.Goals as goal

pub has-requires-clause-marked : goal.has-requires-clause-marked
has-requires-clause-marked g c = grind (arith, common_steps, marked-read)

pub returns-in-Some : goal.returns-in-Some
returns-in-Some g c = record { value = grind (arith, common_steps, value_at, at-read); valid = well_formed c.self.inside _ c.self.view_is c.self.invariant }

pub returns-in-None : goal.returns-in-None
returns-in-None g c = record { value = grind (arith, common_steps, value_at, at-past); valid = well_formed c.self.inside _ c.self.view_is c.self.invariant }
