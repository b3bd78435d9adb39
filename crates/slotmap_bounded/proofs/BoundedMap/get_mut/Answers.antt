use Rattle.std.proofs.Common.{ap, is_some, sym}
use Rattle.slotmap.proofs.Callers.{same_lent}
use Rattle.slotmap.specs.Words.{Content, with_value}
use Rattle.slotmap_bounded.proofs.Bounds.{written}
use Rattle.slotmap_bounded.proofs.BoundedMap.get_mut.Goals as goal

pub invariant_of-self-lent : goal.invariant_of-self-lent
invariant_of-self-lent g c w = written c.self.invariant (g.K.Key.data_of c.args.key) (ap is_some (sym c.in-Some.ensures.value)) w

pub returns-in-Some : goal.returns-in-Some
returns-in-Some g c =
    let k = g.K.Key.data_of c.args.key in (
      same_lent _ _ _ (λ w. ap (λ (s : Content g.row.V.Denot). with_value s k w) c.self.view_is),
      record { writes_back = tt; value = rw (← c.self.view_is) c.in-Some.ensures.value },
    )
