use Rattle.std.proofs.Common.{◌+◌, ◌*◌, ◌≤◌, length}
use Rattle.std.specs.FinMap as map
use Rattle.std.specs.FinSet as set
use Rattle.slotmap_examples.proofs.hops.count_reads.Given as goal

-- each read so far counts against a key or a retired slot that was passed
abbrev pub invariant-loop : goal.invariant-loop
invariant-loop g l =
    l.keys.reads + 2 * length l.keys.retired + 2 * length l.keys.rest ≤ 2 * map.len l.store.content.live + 2 * set.len l.store.content.retired

abbrev pub decreases-loop : goal.decreases-loop
decreases-loop g l = length l.keys.rest
