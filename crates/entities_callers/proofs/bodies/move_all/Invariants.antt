use Rattle.std.proofs.Common.{◌≡◌}
use Rattle.slotmap.specs.Words.{get}
use Rattle.slotmap_entities.proofs.Callers.{Passes}
use Rattle.entities_callers.specs.Moves.{place_after}
use Rattle.entities_callers.proofs.bodies.move_all.Given as goal

-- the entities before this position are moved, and the others are where they were
abbrev pub invariant-loop-at : goal.invariant-loop-at
invariant-loop-at l = record {
  speeds : l.world.tables.1 ≡ l.fn.world.tables.1;
  places : Passes l.fn.world l.world l.at (λ w k. get w.tables.0.pairs k)
      (λ k before after. after ≡ place_after before (get l.fn.world.tables.1.0.pairs k));
}
