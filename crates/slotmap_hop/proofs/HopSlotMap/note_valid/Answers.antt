use Rattle.slotmap_hop.proofs.Common.{well_formed}
use Rattle.slotmap_hop.proofs.HopSlotMap.note_valid.Goals as goal

pub returns : goal.returns
returns g c = well_formed c.self.inside c.self.view_is c.self.invariant
