use Rattle.std.proofs.Common.{◌+◌}
use Rattle.slotmap_basic.proofs.Common.{slot_list-length, length, arith}
use Rattle.slotmap_basic.proofs.columns.ColumnsLayout.reserve.Goals as goal

pub returns-clause-room : goal.returns-clause-room
returns-clause-room g c =
    let m = c.self.inside in
    let len = slot_list-length c.self.invariant c.self.view_is in
    let numbers = c.self.invariant.numbers_length in
    let payloads = c.self.invariant.payloads_length in
    c.fit_count-self-inside.ensures.greatest (length c.args.self.now.slots + c.args.additional) c.requires
    (omega (arith, c.growth-more.ensures, c.in_ok-reserve-3.ensures.ok, m.versions.ok.0))
    (omega (arith, c.growth-more.ensures, c.in_ok-reserve-2.ensures.ok, m.numbers.ok.0))
    (omega (arith, c.growth-more.ensures, c.in_ok-reserve.ensures.ok, m.payloads.ok.0))

pub returns-clause-grows : goal.returns-clause-grows
returns-clause-grows g c =
    let m = c.self.inside in
    rw (← c.self.view_is) (c.fit_count-self-inside.ensures.greatest m.capacity c.self.invariant.limit
    (omega (arith, c.self.invariant.versions_fit, c.reserve-3.ensures.capacity))
    (omega (arith, c.self.invariant.numbers_fit, c.reserve-2.ensures.capacity))
    (omega (arith, c.self.invariant.payloads_fit, c.reserve.ensures.capacity)))
