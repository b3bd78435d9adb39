use Rattle.std.proofs.Common.{option_map, sym, ap, ◌∙◌}
use Rattle.slotmap_list.proofs.{Elements.before_stands, Seen.stands_if, Seen.value_at}
use Rattle.slotmap_list.proofs.StableList.prev_element.Goals as goal

pub value-requires : goal.value-requires
value-requires g c = stands_if c.self.invariant (g.K.Key.data_of c.in_ok-prev.prev) ∙ rw (← c.self.view_is) at (before_stands (g.K.Key.data_of c.args.cursor) (g.K.Key.data_of c.in_ok-prev.prev)
    c.args.self.now.elements (ap (option_map g.K.Key.data_of) (sym c.in_ok-prev.was) ∙ c.prev.ensures))

pub returns-clause-value : goal.returns-clause-value
returns-clause-value g c = rw (← c.self.view_is) (value_at c.self.invariant (g.K.Key.data_of c.in_ok-prev.prev) ∙ c.value.ensures)
