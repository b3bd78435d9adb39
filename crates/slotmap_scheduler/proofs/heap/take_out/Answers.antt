use Rattle.std.proofs.Common.{◌≢◌}
use Rattle.slotmap_scheduler.proofs.Common.{arith, mapped-removes, mapped-stays, sym, unplaced, vec_len, ◌∙◌}
use Rattle.slotmap_scheduler.proofs.HeapPlaces.{gap_but, gap_live, gap_placed, gap_within, in_heap, last_heap, last_placed, place_written, left_indexed}
use Rattle.slotmap_scheduler.proofs.heap.take_out.Goals as goal

pub swap_remove-requires : goal.swap_remove-requires
swap_remove-requires g c = in_heap c.args.jobs.now c.args.heap.now c.requires.placed c.args.handle c.in_ok-removed.removed (sym c.remove.ensures.value ∙ c.in_ok-removed.was)

pub returns-then-removed-len-clause-removes : goal.returns-then-removed-len-clause-removes
returns-then-removed-len-clause-removes g c = mapped-removes unplaced _ _ c.args.handle c.in_ok-removed.ensures.removes

pub returns-then-removed-len-clause-indexed : goal.returns-then-removed-len-clause-indexed
returns-then-removed-len-clause-indexed g c =
    let found = sym c.remove.ensures.value ∙ c.in_ok-removed.was in
    let by = c.swap_remove.ensures in
    let end = c.if-removed-len.true ∙ c.len.ensures in
    left_indexed c.args.jobs.now c.args.heap.now c.requires c.args.handle c.in_ok-removed.removed found c.remove.new.self c.swap_remove.new.self (returns-then-removed-len-clause-removes g c)
    (rw c.remove.ensures.live (last_placed c.args.jobs.now c.args.heap.now c.requires.placed c.args.handle c.in_ok-removed.removed found c.swap_remove.new.self by.len by.by_index end))
    (last_heap c.args.jobs.now c.args.heap.now c.requires.placed c.args.handle c.in_ok-removed.removed found c.swap_remove.new.self by.len by.by_index end c.requires.ordered) by.len

pub returns-then-removed-len-clause-valid : goal.returns-then-removed-len-clause-valid
returns-then-removed-len-clause-valid g c = mapped-stays unplaced _ _ c.remove.ensures.valid

pub returns-in_err-removed-clause-valid : goal.returns-in_err-removed-clause-valid
returns-in_err-removed-clause-valid g c = mapped-stays unplaced _ _ c.remove.ensures.valid

pub index-requires : goal.index-requires
index-requires g c =
    gap_within c.args.jobs.now c.args.heap.now c.requires.placed c.args.handle c.in_ok-removed.removed (sym c.remove.ensures.value ∙ c.in_ok-removed.was)
    c.swap_remove.new.self c.swap_remove.ensures.len c.swap_remove.ensures.by_index (λ same. c.if-removed-len.false (same ∙ sym c.len.ensures))

pub index_mut-requires : goal.index_mut-requires
index_mut-requires g c = grind (arith, gap_live, c.remove.ensures.live, c.remove.ensures.value, c.swap_remove.ensures.len, c.swap_remove.ensures.by_index, c.len.ensures, c.index.ensures)

pub settle-requires : goal.settle-requires
settle-requires g c =
    let found = sym c.remove.ensures.value ∙ c.in_ok-removed.was in
    let by = c.swap_remove.ensures in
    let apart : c.in_ok-removed.removed.place ≢ vec_len c.swap_remove.new.self = λ same. c.if-removed-len.false (same ∙ sym c.len.ensures) in
    record {
      placed = rw c.remove.ensures.live (gap_placed c.args.jobs.now c.args.heap.now c.requires.placed c.args.handle c.in_ok-removed.removed found c.swap_remove.new.self by.len by.by_index apart
          c.index.result.now c.index.ensures c.index_mut.result.now (rw c.remove.ensures.live at c.index_mut.ensures.value));
      but = gap_but c.args.jobs.now c.args.heap.now c.requires.placed c.args.handle c.in_ok-removed.removed found c.swap_remove.new.self by.len by.by_index apart c.requires.ordered;
      within = gap_within c.args.jobs.now c.args.heap.now c.requires.placed c.args.handle c.in_ok-removed.removed found c.swap_remove.new.self by.len by.by_index apart;
    }

pub returns-clause-removes : goal.returns-clause-removes
returns-clause-removes g c =
    rw (c.settle.ensures.resettled.same, place_written c.remove.new.self c.index.result.now.handle c.index_mut.result.now c.in_ok-removed.removed.place c.index_mut.ensures.value)
    (mapped-removes unplaced _ _ c.args.handle c.in_ok-removed.ensures.removes)

pub returns-clause-valid : goal.returns-clause-valid
returns-clause-valid g c =
    rw (
      c.settle.ensures.resettled.same,
      place_written c.remove.new.self c.index.result.now.handle c.index_mut.result.now c.in_ok-removed.removed.place c.index_mut.ensures.value,
    ) (mapped-stays unplaced _ _ c.remove.ensures.valid)

pub returns-clause-indexed : goal.returns-clause-indexed
returns-clause-indexed g c = grind (arith, left_indexed, returns-clause-removes g c, c.settle.ensures.resettled, c.remove.ensures.value, c.settle.ensures.heap, c.swap_remove.ensures.len)
