use Rattle.slotmap_secondary.proofs.Common.{refl, listing-entries, values-slots, counted-values, well_formed}
use Rattle.slotmap_secondary.proofs.SecondaryMap.values.Goals as goal

pub invariant_of-result : goal.invariant_of-result
invariant_of-result g c = rw (c.as_slice.ensures.value) (counted-values _ _ c.self.invariant)

pub returns-clause-listing : goal.returns-clause-listing
returns-clause-listing g c = rw (c.as_slice.ensures.value, values-slots, ← c.self.view_is) (record { entries = _; listing = listing-entries _; values_of = refl })

pub returns-clause-in_order : goal.returns-clause-in_order
returns-clause-in_order g c = rw (c.as_slice.ensures.value, values-slots, ← c.self.view_is) refl

pub returns-clause-valid : goal.returns-clause-valid
returns-clause-valid g c = well_formed c.self.inside _ c.self.view_is c.self.invariant
