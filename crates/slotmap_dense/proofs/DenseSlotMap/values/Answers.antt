use Rattle.slotmap_core.proofs.Common.{map as list_map, ap, ◌∙◌, seconds-zip}
use Rattle.slotmap_dense.proofs.DenseSlotMap.values.Goals as goal

pub returns-clause-in_order : goal.returns-clause-in_order
returns-clause-in_order g c = ap (list_map (λ p. p.1)) c.iter.ensures.in_order ∙ seconds-zip c.args.self.now.keys c.args.self.now.values c.iter.ensures.valid.same_length
