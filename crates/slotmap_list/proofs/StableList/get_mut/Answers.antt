use Rattle.slotmap_list.proofs.Common.{is_some, sym, ap, ◌∙◌, same_lent, same_unlent, Sequence, with_value_at}
use Rattle.slotmap_list.proofs.{Keeps.kept_written, Keeps.seen_written, Seen.value_at}
use Rattle.slotmap_list.proofs.StableList.get_mut.Goals as goal

pub invariant_of-self-lent : goal.invariant_of-self-lent
invariant_of-self-lent g c = λ w. kept_written c.self.invariant (g.K.Key.data_of c.args.cursor) (ap is_some (sym c.in-Some.ensures.value)) w

pub returns-in-Some : goal.returns-in-Some
returns-in-Some g c =
    let k = g.K.Key.data_of c.args.cursor in (
      same_lent _ _ _ (λ w. seen_written c.self.invariant k (ap is_some (sym c.in-Some.ensures.value)) w
          ∙ ap (λ (s : Sequence g.row.T.Denot). record s { elements = with_value_at k w s.elements }) c.self.view_is),
      record { writes_back = tt; value = rw (← c.self.view_is) (c.in-Some.ensures.value ∙ sym (value_at c.self.invariant k)) },
    )

pub returns-in-None : goal.returns-in-None
returns-in-None g c = (
  same_unlent _ _ c.self.view_is,
  record { writes_back = tt; value = rw (← c.self.view_is) (c.in-None.ensures.value ∙ sym (value_at c.self.invariant (g.K.Key.data_of c.args.cursor))) },
)
