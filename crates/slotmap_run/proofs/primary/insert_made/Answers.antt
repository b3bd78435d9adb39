use Rattle.slotmap_core.proofs.Common.{rules, arith, common_steps}
use Rattle.slotmap_run.proofs.primary.insert_made.Goals as goal

pub returns : goal.returns
returns g c = record { ok = search rules; err = search rules; valid = grind (arith, common_steps) }
