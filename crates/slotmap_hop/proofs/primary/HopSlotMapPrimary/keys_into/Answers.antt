use Rattle.slotmap_hop.proofs.Common.{subst, sym, on_ok_weaker, IsKeyListing, IsKeyListing-listing, listing-entries}
use Rattle.slotmap_hop.proofs.primary.HopSlotMapPrimary.keys_into.Goals as goal

pub returns-clause-ok : goal.returns-clause-ok
returns-clause-ok g c = on_ok_weaker c.keys_into.result (λ says.
    (says.0, says.1, subst (IsKeyListing c.args.self.now.content.live) (sym says.2) (IsKeyListing-listing _ _ (listing-entries c.args.self.now.content.live)))) c.keys_into.ensures.ok
