use Rattle.slotmap_scheduler.proofs.{Common.live-insert_still, HeapPlaces.read_live, HeapPlaces.resettled_swap}
use Rattle.slotmap_scheduler.proofs.heap.exchange.Goals as goal

pub index_mut-requires : goal.index_mut-requires
index_mut-requires g c = read_live c.args.jobs.now c.args.heap.now c.requires.placed c.args.a c.index.result.now c.requires.a_in c.index.ensures

pub index_mut-requires-2 : goal.index_mut-requires-2
index_mut-requires-2 g c = live-insert_still _ _ _ _ (read_live c.args.jobs.now c.args.heap.now c.requires.placed c.args.b c.index-2.result.now c.requires.b_in c.index-2.ensures)

pub returns-clause-resettled : goal.returns-clause-resettled
returns-clause-resettled g c =
    resettled_swap c.args.jobs.now c.args.heap.now c.requires.placed c.args.a c.args.b c.requires.a_in c.requires.b_in c.requires.apart c.index.result.now
    c.index-2.result.now c.index.ensures c.index-2.ensures
    c.index_mut.result.now c.index_mut-2.result.now c.index_mut.ensures.value c.index_mut-2.ensures.value c.swap.new.self c.swap.ensures.len c.swap.ensures.capacity c.swap.ensures.by_index
