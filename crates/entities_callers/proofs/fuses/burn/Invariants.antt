use Rattle.std.proofs.Common.{◌≡◌, ◌≢◌, ◌-◌, Some}
use Rattle.std.specs.Prelude.{option_map}
use Rattle.std.specs.FinMap as map
use Rattle.slotmap.specs.Words.{get}
use Rattle.slotmap_entities.proofs.Callers.{Thins}
use Rattle.entities_callers.proofs.fuses.burn.Given as goal

-- the fuses before this position burnt by one, and those of the entities that are gone were at 0
abbrev pub invariant-loop-at : goal.invariant-loop-at
invariant-loop-at l = Thins l.fn.world l.world l.at (λ w k. get w.tables.0.pairs k)
    (λ k before after. (before ≢ Some 0) × (after ≡ option_map (λ left. left - 1) before)) (λ k before. before ≡ Some 0)

abbrev pub decreases-loop-at : goal.decreases-loop-at
decreases-loop-at l = map.len l.world.entities.content.live - l.at
