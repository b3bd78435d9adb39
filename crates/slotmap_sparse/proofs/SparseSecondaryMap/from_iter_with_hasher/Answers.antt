use Rattle.slotmap_core.proofs.Common.{Pairs, AllPut, refl, subst}
use Rattle.slotmap_sparse.proofs.SparseSecondaryMap.from_iter_with_hasher.Goals as goal

pub returns-in-Err-clause-err : goal.returns-in-Err-clause-err
returns-in-Err-clause-err g c =
    let ran = c.in-Err.ensures.extends in (
      c.in-Err.pair,
      refl,
      ran.0,
      ran.2.pairs,
      ran.2.ended.0.0,
      ran.1,
      ran.2.ended.0.1,
      record {
        left = c.extend.new.self.pairs;
        put = subst (λ (m : Pairs g.row.V.Denot). AllPut g.K.Key.data_of m ran.2.pairs c.extend.new.self.pairs) c.empty-all.ensures.empty ran.2.put;
        vacant = ran.2.ended.1;
        absent = c.in-Err.ensures.absent;
      },
    )
