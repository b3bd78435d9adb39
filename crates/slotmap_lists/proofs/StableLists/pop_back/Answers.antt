use Rattle.slotmap_lists.proofs.Common.{[], option_map, sym, ap, ◌∙◌, elements_of}
use Rattle.std.proofs.Common.{◌∷◌, ◌++◌}
use Rattle.slotmap_list.proofs.Elements.{no_last}
use Rattle.slotmap_lists.proofs.Ends.{last_there, others_back, taken_back}
use Rattle.slotmap_lists.proofs.StableLists.pop_back.Goals as goal

pub returns-in_err-cursor-clause-back : goal.returns-in_err-cursor-clause-back
returns-in_err-cursor-clause-back g c =
    let none = no_last (elements_of c.args.list c.args.self.now.lists) (sym c.last.ensures.value ∙ ap (option_map g.K.Key.data_of) c.in_err-cursor.was) in
    rw c.from_residual.ensures (none, none)

pub returns-in_err-value-clause-back : goal.returns-in_err-value-clause-back
returns-in_err-value-clause-back g c = absurd (last_there c.args.self.now.lists c.len.ensures.once c.args.list (g.K.Key.data_of c.in_ok-cursor.cursor)
    (sym c.last.ensures.value ∙ ap (option_map g.K.Key.data_of) c.in_ok-cursor.was) (sym (rw c.in_err-value.was at c.remove.ensures.value)))

pub returns-clause-back : goal.returns-clause-back
returns-clause-back g c = let k = g.K.Key.data_of c.in_ok-cursor.cursor in
    taken_back c.args.self.now.lists c.len.ensures.once c.args.list k (sym c.last.ensures.value ∙ ap (option_map g.K.Key.data_of) c.in_ok-cursor.was) c.in_ok-value.value
    (sym (rw c.in_ok-value.was at c.remove.ensures.value)) ∙ ap (λ l. elements_of c.args.list l ++ (k, c.in_ok-value.value) ∷ []) (sym c.remove.ensures.removed)

pub returns-clause-others : goal.returns-clause-others
returns-clause-others g c q apart = let is = sym c.last.ensures.value ∙ ap (option_map g.K.Key.data_of) c.in_ok-cursor.was in
    ap (elements_of q) c.remove.ensures.removed
    ∙ others_back c.args.self.now.lists c.len.ensures.once c.args.list (g.K.Key.data_of c.in_ok-cursor.cursor) is q apart

pub returns-in_err-value-clause-others : goal.returns-in_err-value-clause-others
returns-in_err-value-clause-others g c = absurd (last_there c.args.self.now.lists c.len.ensures.once c.args.list (g.K.Key.data_of c.in_ok-cursor.cursor)
    (sym c.last.ensures.value ∙ ap (option_map g.K.Key.data_of) c.in_ok-cursor.was) (sym (rw c.in_err-value.was at c.remove.ensures.value)))
