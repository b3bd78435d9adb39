use Rattle.std.proofs.Common.{◌≡◌}
use Rattle.slotmap.specs.Words.{contains_key, get}
use Rattle.slotmap_entities.proofs.Callers.{Passes}
use Rattle.entities_callers.specs.Moves.{speed_after}
use Rattle.entities_callers.proofs.boats.push_all.Given as goal

-- the entities before this position are pushed, and the others have the speed that they had
abbrev pub invariant-loop-at : goal.invariant-loop-at
invariant-loop-at l = record {
  kinds : l.world.tables.1 ≡ l.fn.world.tables.1;
  speeds : Passes l.fn.world l.world l.at (λ w k. get w.tables.0.pairs k)
      (λ k before after. after ≡ speed_after (contains_key l.fn.world.tables.1.1.0.pairs k) before (get l.fn.world.tables.1.0.pairs k));
}
