use Rattle.std.proofs.Common.{◌+◌}
use Rattle.slotmap_dense.proofs.Common.{length-map, length, ap, arith, slot_of_row}
use Rattle.slotmap_dense.proofs.rows.RowsLayoutU32.reserve.Goals as goal

pub returns-clause-room : goal.returns-clause-room
returns-clause-room c =
    let m = c.self.inside in
    let len = ap (λ l. length l.slots) c.self.view_is in
    c.fit_count-self-inside.ensures.greatest (length c.args.self.now.slots + c.args.additional) c.requires
    (omega (arith, len, length-map m.rows.items slot_of_row, c.in_ok-reserve.ensures.ok, m.rows.ok.0))

pub returns-clause-grows : goal.returns-clause-grows
returns-clause-grows c = rw (← c.self.view_is) (c.fit_count-self-inside.ensures.greatest c.self.inside.capacity c.self.invariant.0 (omega (arith, c.self.invariant.1, c.reserve.ensures.capacity)))
