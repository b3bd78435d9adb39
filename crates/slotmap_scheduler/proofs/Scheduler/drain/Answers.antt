use Rattle.slotmap_scheduler.proofs.Draining.{keeps_lent, yields_in_order}
use Rattle.slotmap_scheduler.proofs.Scheduler.drain.Goals as goal

pub returns-clause-stays : goal.returns-clause-stays
returns-clause-stays g c = keeps_lent g.K.Key.data_of _

pub returns-clause-in_order : goal.returns-clause-in_order
returns-clause-in_order g c = yields_in_order g.K.Key.data_of _
