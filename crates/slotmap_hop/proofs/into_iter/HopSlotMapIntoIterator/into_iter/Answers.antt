use Rattle.slotmap_hop.proofs.Common.{refl, listing-entries, zero_leads, iter_starts, pairs-start}
use Rattle.slotmap_hop.proofs.into_iter.HopSlotMapIntoIterator.into_iter.Goals as goal

pub back_of-back-requires : goal.back_of-back-requires
back_of-back-requires g c = rw c.as_slice.ensures.value (zero_leads c.self.invariant.linked)

pub invariant_of-result : goal.invariant_of-result
invariant_of-result g c = rw (c.back_of-back.ensures, c.as_slice.ensures.value) (iter_starts _ _ _ c.self.invariant)

pub returns : goal.returns
returns g c =
    rw (c.back_of-back.ensures, c.as_slice.ensures.value, pairs-start _ _ _ c.self.invariant, ← c.self.view_is) (record { into_iter_gives = record { listing = listing-entries _; in_order = refl } })
