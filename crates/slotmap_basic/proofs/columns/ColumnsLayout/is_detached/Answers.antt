use Rattle.std.proofs.Common.{◌≡◌, ◌<◌}
use Rattle.slotmap_basic.proofs.Common.{common_steps, length, get_or, arith, detached_at, slot_list-length}
use Rattle.slotmap_basic.proofs.columns.ColumnsLayout.is_detached.Goals as goal

pub returns : goal.returns
returns g c =
    let m = c.self.inside in
    let n = c.index.result.now in
    let read : n ≡ get_or m.numbers.items c.args.index n = grind (arith, common_steps) in
    let within : c.args.index < length m.versions.items = omega (arith, c.requires.within, slot_list-length c.self.invariant c.self.view_is) in
    rw (← c.self.view_is) (detached_at m.versions.items m.numbers.items m.payloads.items c.self.invariant.numbers_length c.self.invariant.payloads_length
    c.args.index n c.marks_detached.result within read (rw (← c.self.view_is) at c.requires.even) c.marks_detached.ensures)
