use Rattle.slotmap_list.proofs.Common.{option_map, refl, sym, ap, ◌∙◌, same_lent, same_unlent}
use Rattle.slotmap_list.proofs.Elements.{last_in, no_last, some_there}
use Rattle.slotmap_list.proofs.Ends.{back_there, last_there}
use Rattle.slotmap_list.proofs.StableList.back_mut.Goals as goal

pub value_mut-requires : goal.value_mut-requires
value_mut-requires g c = some_there _ c.args.self.now.elements (last_in c.args.self.now.elements _ (sym c.last.ensures ∙ ap (option_map g.K.Key.data_of) c.in-Some.is))

pub returns-in-Some : goal.returns-in-Some
returns-in-Some g c =
    let es = c.args.self.now.elements in
    let k = g.K.Key.data_of c.in-Some.cursor in
    let last = sym c.last.ensures ∙ ap (option_map g.K.Key.data_of) c.in-Some.is in (
      same_lent _ _ _ (λ w. ap (λ l. record c.args.self.now { elements = l }) (last_there es c.len.ensures.once k last w)),
      record { writes_back = tt; value = sym c.value_mut.ensures.value ∙ back_there es c.len.ensures.once k last },
    )

pub returns-in-None : goal.returns-in-None
returns-in-None g c =
    let none = no_last c.args.self.now.elements (sym c.last.ensures ∙ ap (option_map g.K.Key.data_of) c.in-None.is) in
    (same_unlent _ _ refl, record { writes_back = tt; value = rw none refl })
