use Rattle.slotmap_scheduler.proofs.Common.{ap, arith, exact_keys, itself, keys_total, length, tied, ◌∙◌, rules, spent_inserts, timed, true}
use Rattle.slotmap_scheduler.proofs.Schedules.{put_found, put_fresh, put_len, put_order, put_schedule}
use Rattle.slotmap_scheduler.proofs.Found.{len_in_turn}
use Rattle.slotmap_scheduler.proofs.Handles.{handles_inserted, handles_stale, handles_unspent, same_capacity}
use Rattle.slotmap_scheduler.proofs.Scheduler.put.Goals as goal

pub put_in-handle-requires : goal.put_in-handle-requires
put_in-handle-requires g c = let room = rw (← c.self.view_is) at c.requires.room in record { indexed = c.self.invariant.indexed; room = omega arith; space = omega arith }

pub invariant_of-self : goal.invariant_of-self
invariant_of-self g c =
    let put = c.put_in-handle.ensures in
    put_schedule c.self.invariant c.put_in-handle.new.jobs c.put_in-handle.result c.args.time c.args.job put.inserts c.put_in-handle.new.heap put.valid.after put.indexed put.capacity

pub returns : goal.returns
returns g c =
    let put = c.put_in-handle.ensures in
    let well = c.self.invariant.valid in
    let more = put_len c.self.invariant c.put_in-handle.new.jobs c.put_in-handle.result c.args.time c.args.job put.inserts in
    let len = c.self.invariant.indexed.len in
    let now = put.indexed.len in
    let waits = (put_order c.self.invariant c.put_in-handle.new.jobs c.put_in-handle.result c.args.time c.args.job put.inserts).1 in
    let found = put_found c.self.invariant c.put_in-handle.new.jobs c.put_in-handle.result c.args.time c.args.job put.inserts in
    record {
      waits = rw (← c.self.view_is, c.outer.ensures) waits;
      there = rw (c.outer.ensures) (grind (arith, found c.put_in-handle.result, itself keys_total exact_keys c.put_in-handle.result));
      others = rw (← c.self.view_is, c.outer.ensures) (λ q other. grind (arith, found q, tied keys_total exact_keys q c.put_in-handle.result));
      one_more = rw (← c.self.view_is) (ap length waits ∙ len_in_turn _ _);
      fresh = rw (← c.self.view_is, c.outer.ensures) (put_fresh c.self.invariant c.put_in-handle.new.jobs c.put_in-handle.result c.args.time c.args.job put.inserts);
      unspent = rw (← c.self.view_is, c.outer.ensures) (handles_unspent (timed c.self.inside.jobs) (timed c.put_in-handle.new.jobs) c.self.inside.heap c.put_in-handle.new.heap _ _ put.inserts well);
      handles = rw (← c.self.view_is, c.outer.ensures)
          (handles_inserted (timed c.self.inside.jobs) (timed c.put_in-handle.new.jobs) c.self.inside.heap c.put_in-handle.new.heap _ _ put.inserts (omega arith) (omega (arith, put.capacity)));
      capacity = rw (← c.self.view_is) (same_capacity (timed c.self.inside.jobs) (timed c.put_in-handle.new.jobs) c.self.inside.heap c.put_in-handle.new.heap put.valid.capacity put.capacity);
      turns = search rules;
      stale = rw (← c.self.view_is)
          (handles_stale (timed c.self.inside.jobs) (timed c.put_in-handle.new.jobs) c.self.inside.heap c.put_in-handle.new.heap (spent_inserts _ _ true well _ _ put.inserts));
    }
