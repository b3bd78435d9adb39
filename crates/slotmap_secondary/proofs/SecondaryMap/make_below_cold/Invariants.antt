use Rattle.std.proofs.Common.{◌≡◌, ◌-◌, ◌<◌, ◌≤◌}
use Rattle.slotmap_secondary.proofs.Common.{pairs_of, IsSound, vec_capacity, vec_len}
use Rattle.slotmap_secondary.proofs.SecondaryMap.make_below_cold.Given as goal

abbrev pub invariant-loop-self : goal.invariant-loop-self
invariant-loop-self g l = record {
  sound : IsSound l.self-inside.slots.items l.self-inside.len;
  same : pairs_of l.self-inside.slots.items ≡ l.fn.self.pairs;
  below : vec_len l.self-inside.slots ≤ l.index;
  room : l.index < vec_capacity l.self-inside.slots;
  kept : vec_capacity l.self-inside.slots ≡ vec_capacity l.initial.self-inside.slots;
}

abbrev pub decreases-loop-self : goal.decreases-loop-self
decreases-loop-self g l = l.index - vec_len l.self-inside.slots
