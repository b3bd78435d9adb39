use Rattle.std.proofs.Common.{◌≡◌, ◌+◌, ◌≤◌, length}
use Rattle.slotmap_list.specs.Sequence.{memory}
use Rattle.list_callers.proofs.room.fill_list_again.Given as goal

-- there are as many elements as were added, and there is room for the others
abbrev pub invariant-loop : goal.invariant-loop
invariant-loop l = record {
  elements : length l.list.elements ≡ l.counter;
  room : l.count ≤ l.list.cursors.room + l.counter;
  memory_is : memory l.list ≡ memory l.fn.list;
  within : l.counter ≤ l.count;
  count : l.count ≡ length l.fn.list.elements;
}
