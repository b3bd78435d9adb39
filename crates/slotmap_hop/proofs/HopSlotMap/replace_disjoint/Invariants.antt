use Rattle.std.proofs.Common.{◌≡◌}
use Rattle.slotmap_hop.proofs.Common.{map_list, value_of, with_value, Exchanged, StaysHop}
use Rattle.slotmap_hop.proofs.HopSlotMap.replace_disjoint.Given as goal

abbrev pub invariant-loop-i : goal.invariant-loop-i
invariant-loop-i g l =
    Exchanged value_of with_value l.fn.self.content (map_list g.K.Key.data_of l.keys) l.initial.values l.self.content l.values l.i × (l.self.blocks ≡ l.fn.self.blocks) × StaysHop l.fn.self l.self
