use Rattle.slotmap_list.proofs.Seen.{no_key_twice}
use Rattle.slotmap_list.proofs.StableList.iter.Goals as goal

pub returns-clause-once : goal.returns-clause-once
returns-clause-once g c = rw c.iter.ensures (no_key_twice c.self.invariant)
