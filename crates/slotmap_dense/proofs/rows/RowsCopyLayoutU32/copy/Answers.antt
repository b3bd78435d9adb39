use Rattle.slotmap_dense.proofs.Common.{length, refl, ap, ◌∙◌, arith, length-map, slot_of_row, slots_of_rows, clones-self}
use Rattle.slotmap_dense.proofs.rows.RowsCopyLayoutU32.copy.Goals as goal

pub returns-clause-clones : goal.returns-clause-clones
returns-clause-clones c = rw (c.in_ok-rows.ensures.items, c.deref.ensures.value, ← c.self.view_is) (clones-self _ (λ p. refl) (slots_of_rows c.self.inside.rows.items))

pub returns-clause-room : goal.returns-clause-room
returns-clause-room c =
    let rows = c.in_ok-rows.rows in
    let same = ap (λ rs. length (slots_of_rows rs)) (c.in_ok-rows.ensures.items ∙ c.deref.ensures.value) ∙ ap (λ l. length l.slots) c.self.view_is in
    c.fit_count-capacity.ensures.greatest (length (slots_of_rows rows.items)) (omega (arith, same, c.requires.few))
    (omega (arith, length-map rows.items slot_of_row, rows.ok.0, rows.ok.1))
