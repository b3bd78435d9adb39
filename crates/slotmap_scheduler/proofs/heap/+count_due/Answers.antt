use Rattle.std.proofs.Common.{◌*◌, ◌+◌}
use Rattle.slotmap_scheduler.proofs.Common.{arith, sym}
use Rattle.slotmap_scheduler.proofs.Counting.{due-le, due_split, none_past, none_under}
use Rattle.slotmap_scheduler.proofs.heap.+count_due.Goals.{then-at-heap-via-else-at-heap+then-heap-at, then-at-heap-via-then-at-heap}
use Rattle.slotmap_scheduler.proofs.heap.+count_due.Goals as goal

pub returns-then-at-heap : goal.returns-then-at-heap
returns-then-at-heap t c = elim c.then-at-heap.branch [
  | then-at-heap-via-then-at-heap w ↦ sym (none_past c.args.now c.args.heap.now c.requires c.args.at w.if-at-heap.true)
  | then-at-heap-via-else-at-heap+then-heap-at w ↦ sym (none_under c.args.now c.args.heap.now c.requires c.args.at _ w.if-at-heap.false w.if-heap-at.true)
]

pub returns-then-at-heap-2 : goal.returns-then-at-heap-2
returns-then-at-heap-2 t c =
    let all = due_split c.args.now c.args.heap.now c.requires c.args.at _ c.if-at-heap.false c.if-heap-at.false in
    let left = none_past c.args.now c.args.heap.now c.requires (2 * c.args.at + 1) (let end = c.if-at-heap-2.true in omega arith) in
    let right = none_past c.args.now c.args.heap.now c.requires (2 * c.args.at + 2) (let end = c.if-at-heap-2.true in omega arith) in
    omega arith

pub overflow_add-result : goal.overflow_add-result
overflow_add-result t c = grind (arith, due_split, due-le c.args.now c.args.heap.now c.requires c.args.at, c.count_due.ensures)

pub overflow_add-result-2 : goal.overflow_add-result-2
overflow_add-result-2 t c = grind (arith, due_split, due-le c.args.now c.args.heap.now c.requires c.args.at, c.count_due.ensures, c.count_due-2.ensures)

pub returns : goal.returns
returns t c = grind (arith, due_split, c.count_due.ensures, c.count_due-2.ensures)
