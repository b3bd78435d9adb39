use Rattle.std.specs.FinMap as map
use Rattle.slotmap_sparse.proofs.Common.{refl, ap, ◌∙◌, IsSound-taken, pairs_taken, found_pair, more_room, well_formed}
use Rattle.slotmap_sparse.proofs.SparseSecondaryMap.take_slot.Goals as goal

pub invariant_of-self : goal.invariant_of-self
invariant_of-self g c = IsSound-taken _ _ c.self.invariant c.remove.ensures.unique _ (pairs_taken _ _ _ c.remove.ensures.updates.0)

pub returns-clause-value : goal.returns-clause-value
returns-clause-value g c =
    c.remove.ensures.value ∙ found_pair _ _ (ap (λ m. m.pairs) c.self.view_is) _ ∙ ap (map.get c.args.self.now.pairs) (c.idx.ensures.value ∙ ap (λ k. k.index) c.data.ensures.value)

pub returns-clause-removes : goal.returns-clause-removes
returns-clause-removes g c = pairs_taken _ _ _ c.remove.ensures.updates.0 ∙ (λ i. map.remove (c.self.view_is i).pairs ((c.idx.ensures.value ∙ ap (λ k. k.index) c.data.ensures.value) i))

pub returns-clause-room : goal.returns-clause-room
returns-clause-room g c = more_room c.self.inside.slots c.remove.new.self _ c.self.view_is c.self.invariant (invariant_of-self g c) c.remove.ensures.spare

pub returns-clause-valid : goal.returns-clause-valid
returns-clause-valid g c = well_formed c.remove.new.self _ refl (invariant_of-self g c)
