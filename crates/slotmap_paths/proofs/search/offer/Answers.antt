use Rattle.std.proofs.Common.{inr}
use Rattle.slotmap_paths.proofs.EdgeSteps.{on_ok}
use Rattle.slotmap_paths.proofs.search.offer.Goals as goal

pub returns-clause-offers : goal.returns-clause-offers
returns-clause-offers g c = on_ok _ _ (λ waits. inr waits) c.wait.result c.wait.ensures.waits
