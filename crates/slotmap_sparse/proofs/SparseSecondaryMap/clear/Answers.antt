use Rattle.slotmap_sparse.proofs.Common.{refl, ap, arith, pairs_of, IsSound-empty, well_formed}
use Rattle.slotmap_sparse.proofs.SparseSecondaryMap.clear.Goals as goal

pub invariant_of-self : goal.invariant_of-self
invariant_of-self g c = IsSound-empty _ c.clear.ensures.unique c.clear.ensures.empty

pub returns : goal.returns
returns g c = record {
  empty = ap pairs_of c.clear.ensures.empty;
  capacity = omega (arith, c.clear.ensures.len, c.clear.ensures.capacity, ap (λ m. m.capacity) c.self.view_is);
  valid = well_formed c.clear.new.self _ refl (invariant_of-self g c);
}
