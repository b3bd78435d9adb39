use Rattle.std.proofs.Common.{◌≡◌, ◌≢◌, ◌-◌, Some}
use Rattle.std.specs.FinMap as map
use Rattle.slotmap.specs.Words.{get}
use Rattle.slotmap_entities.proofs.Callers.{Thins}
use Rattle.entities_callers.proofs.reaper.reap.Given as goal

-- the entities before this position have lives, as many as before, and those that are gone had none
abbrev pub invariant-loop-at : goal.invariant-loop-at
invariant-loop-at l = Thins l.fn.world l.world l.at (λ w k. get w.tables.0.pairs k)
    (λ k before after. (after ≢ Some 0) × (after ≡ before)) (λ k before. before ≡ Some 0)

abbrev pub decreases-loop-at : goal.decreases-loop-at
decreases-loop-at l = map.len l.world.entities.content.live - l.at
