use Rattle.std.specs.Prelude.{◌≡◌, ◌≤◌, ◌<◌, ◌^◌, ◌-◌, Some}
use Rattle.std.specs.FinMap as map
use Rattle.slotmap.specs.Words.{Key, index_after}
use Rattle.slotmap_examples.proofs.walks.has_value.Given as goal

abbrev pub invariant-loop-key : goal.invariant-loop-key
invariant-loop-key g l = (index_after g.K.Key.data_of l.last ≤ 2 ^ 32)
    × ((k : Key) → k.index < index_after g.K.Key.data_of l.last → map.get l.fn.store.live k ≡ Some l.fn.wanted → ⊥)

abbrev pub decreases-loop-key : goal.decreases-loop-key
decreases-loop-key g l = 2 ^ 32 - index_after g.K.Key.data_of l.last
