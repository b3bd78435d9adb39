use Rattle.slotmap_entities.proofs.Common.{ap, with_value_of, same_lent, World}
use Rattle.slotmap_entities.proofs.World.get_mut.Goals as goal

pub returns-in-Some : goal.returns-in-Some
returns-in-Some g c =
    let k = g.K.Key.data_of c.args.key in (
      same_lent _ _ _ (λ w. ap (λ (s : World g.row.E.Denot g.row.T.Denot). record s { entities = with_value_of s.entities k w }) c.self.view_is),
      record { writes_back = tt; value = rw (← c.self.view_is) c.in-Some.ensures.value },
    )
