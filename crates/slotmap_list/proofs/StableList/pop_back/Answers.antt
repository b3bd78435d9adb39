use Rattle.std.proofs.Common.{[], ◌∷◌, ◌++◌, None, option_map, sym, ap, ◌∙◌}
use Rattle.slotmap_list.specs.Sequence.{Sequence, last_or}
use Rattle.slotmap_list.proofs.{Elements.no_last, Ends.back_off, Ends.last_is_some, Seen.last_is, Seen.no_key_twice}
use Rattle.slotmap_list.proofs.StableList.pop_back.Goals as goal

pub returns-in_err-cursor-clause-back : goal.returns-in_err-cursor-clause-back
returns-in_err-cursor-clause-back g c = let last = last_is c.self.invariant g.K.Key.data_of c.key_at.result c.last.result c.key_at.ensures c.last.ensures in
    let none = sym (ap (λ (s : Sequence g.row.T.Denot). s.elements) c.self.view_is) ∙ no_last _ (sym last ∙ ap (option_map g.K.Key.data_of) c.in_err-cursor.was) in
    rw c.from_residual.ensures (none, none)

pub returns-in_err-value-clause-back : goal.returns-in_err-value-clause-back
returns-in_err-value-clause-back g c =
    let last = last_is c.self.invariant g.K.Key.data_of c.key_at.result c.last.result c.key_at.ensures c.last.ensures in
    absurd (last_is_some c.args.self.now.elements (g.K.Key.data_of c.in_ok-cursor.cursor)
    (ap (λ (s : Sequence g.row.T.Denot). last_or s.elements None) (sym c.self.view_is) ∙ sym last ∙ ap (option_map g.K.Key.data_of) c.in_ok-cursor.was)
    (sym (rw c.in_err-value.was at c.remove.ensures.value)))

pub returns-clause-back : goal.returns-clause-back
returns-clause-back g c =
    let last = last_is c.self.invariant g.K.Key.data_of c.key_at.result c.last.result c.key_at.ensures c.last.ensures in
    let k = g.K.Key.data_of c.in_ok-cursor.cursor in
    back_off c.args.self.now.elements (rw (← c.self.view_is) (no_key_twice c.self.invariant)) k
    (ap (λ (s : Sequence g.row.T.Denot). last_or s.elements None) (sym c.self.view_is) ∙ sym last ∙ ap (option_map g.K.Key.data_of) c.in_ok-cursor.was) c.in_ok-value.value
    (sym (rw c.in_ok-value.was at c.remove.ensures.value))
    ∙ ap (λ l. l ++ (k, c.in_ok-value.value) ∷ []) (sym c.remove.ensures.removed)
