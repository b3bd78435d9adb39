use Rattle.slotmap_hop.proofs.Common.{on_ok_weaker, listing-entries, arith}
use Rattle.slotmap_hop.proofs.primary.HopSlotMapPrimary.drain_into.Goals as goal

pub returns-clause-ok : goal.returns-clause-ok
returns-clause-ok g c = grind (arith, on_ok_weaker, listing-entries c.args.self.now.content.live)
