use Rattle.std.specs.Option.{option_map}
use Rattle.slotmap_list.proofs.Visiting.{Retaining, ahead}
use Rattle.slotmap_list.proofs.StableList.retain.Given as goal

abbrev pub invariant-loop-at : goal.invariant-loop-at
invariant-loop-at g l = Retaining g.F.FnMut g.K.Key.data_of l.fn.self l.fn.f l.self (option_map g.K.Key.data_of l.at) l.f

abbrev pub decreases-loop-at : goal.decreases-loop-at
decreases-loop-at g l = ahead (option_map g.K.Key.data_of l.at) l.self.elements
