use Rattle.slotmap_scheduler.proofs.Common.{IfOk-at_ok, Inserts, arith, content-mapped, mapped-inserts, true, unplaced, ◌∙◌}
use Rattle.slotmap_scheduler.proofs.HeapPlaces.{indexed_settled, put_but, put_len, put_placed}
use Rattle.slotmap_scheduler.proofs.heap.put_in.Goals as goal

pub settle-requires : goal.settle-requires
settle-requires g c =
    let inserts = rw c.len-place.ensures at (IfOk-at_ok
    (λ key. Inserts c.args.jobs.now key (record { turn = c.args.turn; place = c.len-place.result; job = c.args.job }) c.insert.new.self) c.unwrap-handle.ensures c.insert.ensures.ok) in
    let push = c.push_reserved.ensures in
    record {
      placed = put_placed c.args.jobs.now c.insert.new.self c.args.heap.now c.requires.indexed c.insert.ensures.valid.before c.unwrap-handle.result c.args.turn
          c.args.job inserts c.push_reserved.new.self push.len push.items;
      but = rw c.len-place.ensures (put_but c.args.jobs.now c.insert.new.self c.args.heap.now c.requires.indexed c.insert.ensures.valid.before
          c.unwrap-handle.result c.args.turn c.args.job inserts c.push_reserved.new.self push.len push.items);
      within = omega (arith, c.len-place.ensures, push.len);
    }

pub returns : goal.returns
returns g c =
    let inserts = rw c.len-place.ensures at (IfOk-at_ok
    (λ key. Inserts c.args.jobs.now key (record { turn = c.args.turn; place = c.len-place.result; job = c.args.job }) c.insert.new.self) c.unwrap-handle.ensures c.insert.ensures.ok) in
    let push = c.push_reserved.ensures in
    let valid = c.insert.ensures.valid in
    let settled = c.settle.ensures.resettled in
    record {
      inserts = rw settled.same (mapped-inserts unplaced c.args.jobs.now c.insert.new.self c.unwrap-handle.result _ inserts);
      valid = rw settled.same (record {
        before = content-mapped unplaced c.args.jobs.now true valid.before;
        after = content-mapped unplaced c.insert.new.self true valid.after;
        capacity = valid.in_place c.requires.room;
      });
      indexed = indexed_settled settled c.settle.ensures.heap
          (put_len c.args.jobs.now c.insert.new.self c.args.heap.now c.requires.indexed valid.before c.unwrap-handle.result c.args.turn c.args.job inserts
          c.push_reserved.new.self push.len push.items);
      capacity = settled.capacity ∙ push.capacity;
    }
