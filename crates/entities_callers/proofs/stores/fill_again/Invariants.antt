use Rattle.std.proofs.Common.{◌≡◌, ◌+◌, ◌≤◌}
use Rattle.std.specs.FinMap as map
use Rattle.entities_callers.proofs.stores.fill_again.Given as goal

-- as many entities are there as were spawned, and there is room for the others
abbrev pub invariant-loop : goal.invariant-loop
invariant-loop g l = record {
  live : map.len l.world.entities.content.live ≡ l.counter;
  room : l.count ≤ l.world.entities.content.room + l.counter;
  capacity : l.world.entities.content.capacity ≡ l.fn.world.entities.content.capacity;
  within : l.counter ≤ l.count;
  count : l.count ≡ map.len l.fn.world.entities.content.live;
}
