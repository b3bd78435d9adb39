use Rattle.slotmap_run.proofs.NewRuns.{starts}
use Rattle.slotmap_run.proofs.serves.note_valid.Goals as goal

pub returns-clause-starts : goal.returns-clause-starts
returns-clause-starts g c = starts _ _ c.len.ensures.valid
