use Rattle.slotmap_lists.proofs.Common.{is_some, sym, ap, ◌∙◌, same_lent, same_unlent, Sequences, with_value_in}
use Rattle.slotmap_lists.proofs.{Listed.value_at, Written.listed_written, Written.seen_written}
use Rattle.slotmap_lists.proofs.StableLists.get_mut.Goals as goal

pub invariant_of-self-lent : goal.invariant_of-self-lent
invariant_of-self-lent g c = λ w. listed_written c.self.invariant (g.K.Key.data_of c.args.cursor) (ap is_some (sym c.in-Some.ensures.value)) w

pub returns-in-Some : goal.returns-in-Some
returns-in-Some g c =
    let k = g.K.Key.data_of c.args.cursor in (
      same_lent _ _ _ (λ w. seen_written c.self.invariant k (ap is_some (sym c.in-Some.ensures.value)) w _
          ∙ ap (λ (s : Sequences g.row.T.Denot). record s { lists = with_value_in k w s.lists }) c.self.view_is),
      record { writes_back = tt; value = rw (← c.self.view_is) (c.in-Some.ensures.value ∙ sym (value_at c.self.invariant k)) },
    )

pub returns-in-None : goal.returns-in-None
returns-in-None g c = (
  same_unlent _ _ c.self.view_is,
  record { writes_back = tt; value = rw (← c.self.view_is) (c.in-None.ensures.value ∙ sym (value_at c.self.invariant (g.K.Key.data_of c.args.cursor))) },
)
