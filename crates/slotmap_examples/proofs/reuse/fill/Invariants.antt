use Rattle.std.proofs.Common.{◌≡◌, ◌+◌, ◌≤◌}
use Rattle.std.specs.FinMap as map
use Rattle.slotmap.proofs.Callers.{AllFirst}
use Rattle.slotmap_examples.proofs.reuse.fill.Given as goal

-- so many values were inserted, and took room for as many
abbrev pub invariant-loop : goal.invariant-loop
invariant-loop g l = record {
  as_many : map.len (g.M.Primary.content l.store).live ≡ map.len (g.M.Primary.content l.fn.store).live + l.counter;
  capacity : (g.M.Primary.content l.store).capacity ≡ (g.M.Primary.content l.fn.store).capacity;
  room : (g.M.Primary.content l.fn.store).room ≤ (g.M.Primary.content l.store).room + l.counter;
  within : l.counter ≤ l.count;
  first : AllFirst (g.M.Primary.content l.fn.store) → AllFirst (g.M.Primary.content l.store);
}
