use Rattle.slotmap_secondary.proofs.Common.{Pairs, AllPut, subst, arith, common_steps}
use Rattle.slotmap_secondary.proofs.SecondaryMap.from_iter.Goals as goal

pub returns-in-Err-clause-err : goal.returns-in-Err-clause-err
returns-in-Err-clause-err g c =
    let ran = c.in-Err.ensures.extends in (
      ran.0,
      ran.2.pairs,
      ran.2.ended.0.0,
      ran.1,
      ran.2.ended.0.1,
      record {
        left = c.extend.new.self;
        put = subst (λ (m : Pairs g.row.V.Denot). AllPut g.K.Key.data_of m ran.2.pairs c.extend.new.self.pairs) c.in-Ok.ensures.empty ran.2.put;
        valid = c.in-Err.ensures.valid;
        vacant = ran.2.ended.1;
        beyond = c.in-Err.ensures.back;
      },
    )

pub returns-in_default : goal.returns-in_default
returns-in_default g c = grind (arith, common_steps)

pub returns-in-Ok-extend : goal.returns-in-Ok-extend
returns-in-Ok-extend g c = grind (arith, common_steps)
