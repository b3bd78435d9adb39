use Rattle.slotmap_list.proofs.Seen.{first_is}
use Rattle.slotmap_list.proofs.StableList.first.Goals as goal

pub returns : goal.returns
returns g c = rw (← c.self.view_is) (first_is c.self.invariant g.K.Key.data_of c.key_at.result c.first.result c.key_at.ensures c.first.ensures)
