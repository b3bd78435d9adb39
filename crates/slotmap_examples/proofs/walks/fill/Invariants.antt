use Rattle.std.proofs.Common.{◌≡◌, ◌+◌}
use Rattle.std.specs.FinMap as map
use Rattle.slotmap_examples.proofs.walks.fill.Given as goal

abbrev pub invariant-loop-i : goal.invariant-loop-i
invariant-loop-i l = map.len l.store.live ≡ map.len l.initial.store.live + l.i
