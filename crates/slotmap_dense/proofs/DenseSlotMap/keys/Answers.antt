use Rattle.slotmap_core.proofs.Common.{map as list_map, ap, ◌∙◌, firsts-zip, IsKeyListing-listing}
use Rattle.slotmap_dense.proofs.DenseSlotMap.keys.Goals as goal

pub returns-clause-listing : goal.returns-clause-listing
returns-clause-listing g c = IsKeyListing-listing _ _ c.iter.ensures.listing

pub returns-clause-in_order : goal.returns-clause-in_order
returns-clause-in_order g c = ap (list_map (λ p. p.0)) c.iter.ensures.in_order ∙ firsts-zip c.args.self.now.keys c.args.self.now.values c.iter.ensures.valid.same_length
