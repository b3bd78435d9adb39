use Rattle.std.proofs.lemmas.Result.{on_ok_weaker}
use Rattle.slotmap.proofs.Callers.{spent_clone}
use Rattle.slotmap_examples.proofs.clones.take_over.Goals as goal

pub returns : goal.returns
returns g c = on_ok_weaker c.clone_from.result (spent_clone _ _ _) c.clone_from.ensures.clones
