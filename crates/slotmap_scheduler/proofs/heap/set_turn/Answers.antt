use Rattle.slotmap_scheduler.proofs.Common.{arith, mapped-with}
use Rattle.slotmap_scheduler.proofs.HeapPlaces.{in_heap, indexed_settled, turned_but, turned_len, turned_placed}
use Rattle.slotmap_scheduler.proofs.heap.set_turn.Goals as goal

pub index_mut-requires : goal.index_mut-requires
index_mut-requires g c = in_heap c.args.jobs.now c.args.heap.now c.requires.indexed.placed c.args.handle c.index_mut-job.result.now c.index_mut-job.ensures.value

pub settle-requires : goal.settle-requires
settle-requires g c =
    let job = c.index_mut-job.result.now in
    let there = c.index_mut-job.ensures.value in
    let e = c.index_mut.result.now in
    record {
      placed = turned_placed c.args.jobs.now c.args.heap.now c.requires.indexed c.args.handle job there c.args.turn e c.index_mut.ensures.value;
      but = turned_but c.args.jobs.now c.args.heap.now c.requires.indexed c.args.handle job there c.args.turn e c.index_mut.ensures.value;
      within = in_heap c.args.jobs.now c.args.heap.now c.requires.indexed.placed c.args.handle job there;
    }

pub returns-clause-written : goal.returns-clause-written
returns-clause-written g c j found = grind (arith, mapped-with, c.index_mut-job.ensures.value, c.settle.ensures.resettled.same)

pub returns-clause-indexed : goal.returns-clause-indexed
returns-clause-indexed g c =
    indexed_settled c.settle.ensures.resettled c.settle.ensures.heap
    (turned_len c.args.jobs.now c.args.heap.now c.requires.indexed c.args.handle c.index_mut-job.result.now c.index_mut-job.ensures.value c.args.turn)
