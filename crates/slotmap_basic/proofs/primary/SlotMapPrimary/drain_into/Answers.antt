use Rattle.slotmap_core.proofs.Common.{IsListing, subst, sym, on_ok_weaker, listing-entries}
use Rattle.slotmap_basic.proofs.primary.SlotMapPrimary.drain_into.Goals as goal

pub returns-clause-ok : goal.returns-clause-ok
returns-clause-ok g c = on_ok_weaker c.drain_into.result (λ says. (says.0, says.1, subst (IsListing c.args.self.now.live) (sym says.2) (listing-entries c.args.self.now.live))) c.drain_into.ensures.ok
