use Rattle.slotmap_sparse.proofs.Common.{refl, ap, ◌∙◌, arith, on_ok, IsSound-same, same_pairs, same_len, well_formed}
use Rattle.slotmap_sparse.proofs.SparseSecondaryMap.make_room.Goals as goal

pub invariant_of-self : goal.invariant_of-self
invariant_of-self g c = IsSound-same _ _ c.self.invariant c.reserve.ensures.unique (same_pairs _ _ c.reserve.ensures.entries.2)

pub returns-clause-ok : goal.returns-clause-ok
returns-clause-ok g c = on_ok c.reserve.result c.reserve.ensures.ok (λ enough. omega (arith, (same_len _ _ (ap (λ m. m.pairs) c.self.view_is) c.self.invariant), enough, c.reserve.ensures.entries.1))

pub returns-clause-keeps : goal.returns-clause-keeps
returns-clause-keeps g c = same_pairs _ _ c.reserve.ensures.entries.2 ∙ ap (λ m. m.pairs) c.self.view_is

pub returns-clause-capacity : goal.returns-clause-capacity
returns-clause-capacity g c = omega (arith, c.reserve.ensures.entries.1, c.reserve.ensures.spare, ap (λ m. m.capacity) c.self.view_is)

pub returns-clause-room : goal.returns-clause-room
returns-clause-room g c enough = grind (arith, same_len)

pub returns-clause-valid : goal.returns-clause-valid
returns-clause-valid g c = well_formed c.reserve.new.self _ refl (invariant_of-self g c)
