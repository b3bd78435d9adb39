use Rattle.slotmap_list.proofs.Seen.{last_is}
use Rattle.slotmap_list.proofs.StableList.last.Goals as goal

pub returns : goal.returns
returns g c = rw (← c.self.view_is) (last_is c.self.invariant g.K.Key.data_of c.key_at.result c.last.result c.key_at.ensures c.last.ensures)
