use Rattle.std.specs.FinMap as map
use Rattle.slotmap_sparse.proofs.Common.{ap, ◌∙◌, found_pair, well_formed}
use Rattle.slotmap_sparse.proofs.SparseSecondaryMap.slot.Goals as goal

pub returns-clause-value : goal.returns-clause-value
returns-clause-value g c =
    c.get.ensures.value ∙ found_pair _ _ (ap (λ m. m.pairs) c.self.view_is) _ ∙ ap (map.get c.args.self.now.pairs) (c.idx.ensures.value ∙ ap (λ k. k.index) c.data.ensures.value)

pub returns-clause-valid : goal.returns-clause-valid
returns-clause-valid g c = well_formed c.self.inside.slots _ c.self.view_is c.self.invariant
