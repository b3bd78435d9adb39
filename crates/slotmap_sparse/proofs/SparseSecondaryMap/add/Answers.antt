use Rattle.slotmap_sparse.proofs.Common.{IsKey, common_steps, refl, ap, subst, ◌∙◌, arith, found_pair, IsSound-added, pairs_put, same_len, well_formed}
use Rattle.slotmap_sparse.proofs.SparseSecondaryMap.add.Goals as goal

pub invariant_of-self : goal.invariant_of-self
invariant_of-self g c =
    let key = c.data-key.ensures.value in
    let at = c.idx.ensures.value ∙ ap (λ k. k.index) key in
    let version = c.version.ensures.value ∙ ap (λ k. k.version) key in
    let is_key = subst IsKey key c.data-key.ensures.valid in
    IsSound-added _ _ c.self.invariant c.insert.ensures.unique (g.K.Key.data_of c.args.key) c.args.value is_key c.requires.not_null _ _ at version c.in-Ok.ensures.updates.0

pub returns-in-Ok-clause-ok : goal.returns-in-Ok-clause-ok
returns-in-Ok-clause-ok g c = grind (arith, common_steps, pairs_put)

pub returns-in-Ok-clause-capacity : goal.returns-in-Ok-clause-capacity
returns-in-Ok-clause-capacity g c = grind (arith, common_steps, found_pair)

pub returns-in-Ok-clause-valid : goal.returns-in-Ok-clause-valid
returns-in-Ok-clause-valid g c = well_formed c.insert.new.self _ refl (invariant_of-self g c)

pub returns-clause-room : goal.returns-clause-room
returns-clause-room g c enough = grind (arith, same_len)

pub returns-clause-valid : goal.returns-clause-valid
returns-clause-valid g c = well_formed c.insert.new.self _ refl (rw c.in-Err.ensures.err c.self.invariant)
