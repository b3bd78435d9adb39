use Rattle.slotmap_list.proofs.Common.{length, KeepsSpent, memory, used, Adds}
use Rattle.std.proofs.Common.{◌≡◌, ◌≤◌, ◌+◌}
use Rattle.std.specs.FinMap as map
use Rattle.slotmap_list.proofs.StableList.extend.Given as goal

abbrev pub invariant-loop-value : goal.invariant-loop-value
invariant-loop-value g l = (goal.iterator-loop-value g).can_next l.value-iterator × (goal.iterator-loop-value g).is_finite l.value-iterator × record {
  adds : Adds l.fn.self.elements l.yielded l.self.elements;
  used : used l.self.cursors + length l.fn.self.elements ≡ used l.fn.self.cursors + length l.self.elements;
  room : l.fn.self.cursors.room + length l.fn.self.elements ≤ l.self.cursors.room + length l.self.elements;
  vacant : map.len l.fn.self.cursors.next + length l.fn.self.elements ≤ map.len l.self.cursors.next + length l.self.elements;
  in_place : length l.self.elements ≤ l.fn.self.cursors.room + length l.fn.self.elements → memory l.self ≡ memory l.fn.self;
  capacity : l.fn.self.cursors.capacity ≤ l.self.cursors.capacity;
  gone : KeepsSpent l.fn.self.cursors l.self.cursors;
}
