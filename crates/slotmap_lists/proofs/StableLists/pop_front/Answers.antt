use Rattle.slotmap_lists.proofs.Common.{option_map, sym, ap, ◌∙◌, elements_of}
use Rattle.std.proofs.Common.{◌∷◌}
use Rattle.slotmap_list.proofs.Elements.{no_first}
use Rattle.slotmap_lists.proofs.Ends.{first_there, others_front, taken_front}
use Rattle.slotmap_lists.proofs.StableLists.pop_front.Goals as goal

pub returns-in_err-cursor-clause-front : goal.returns-in_err-cursor-clause-front
returns-in_err-cursor-clause-front g c =
    let none = no_first (elements_of c.args.list c.args.self.now.lists) (sym c.first.ensures.value ∙ ap (option_map g.K.Key.data_of) c.in_err-cursor.was) in
    rw c.from_residual.ensures (none, none)

pub returns-in_err-value-clause-front : goal.returns-in_err-value-clause-front
returns-in_err-value-clause-front g c = absurd (first_there c.args.self.now.lists c.len.ensures.once c.args.list (g.K.Key.data_of c.in_ok-cursor.cursor)
    (sym c.first.ensures.value ∙ ap (option_map g.K.Key.data_of) c.in_ok-cursor.was) (sym (rw c.in_err-value.was at c.remove.ensures.value)))

pub returns-clause-front : goal.returns-clause-front
returns-clause-front g c = let k = g.K.Key.data_of c.in_ok-cursor.cursor in
    taken_front c.args.self.now.lists c.len.ensures.once c.args.list k (sym c.first.ensures.value ∙ ap (option_map g.K.Key.data_of) c.in_ok-cursor.was) c.in_ok-value.value
    (sym (rw c.in_ok-value.was at c.remove.ensures.value)) ∙ ap (λ l. (k, c.in_ok-value.value) ∷ elements_of c.args.list l) (sym c.remove.ensures.removed)

pub returns-clause-others : goal.returns-clause-others
returns-clause-others g c q apart = let is = sym c.first.ensures.value ∙ ap (option_map g.K.Key.data_of) c.in_ok-cursor.was in
    ap (elements_of q) c.remove.ensures.removed
    ∙ others_front c.args.self.now.lists c.len.ensures.once c.args.list (g.K.Key.data_of c.in_ok-cursor.cursor) is q apart

pub returns-in_err-value-clause-others : goal.returns-in_err-value-clause-others
returns-in_err-value-clause-others g c = absurd (first_there c.args.self.now.lists c.len.ensures.once c.args.list (g.K.Key.data_of c.in_ok-cursor.cursor)
    (sym c.first.ensures.value ∙ ap (option_map g.K.Key.data_of) c.in_ok-cursor.was) (sym (rw c.in_err-value.was at c.remove.ensures.value)))
