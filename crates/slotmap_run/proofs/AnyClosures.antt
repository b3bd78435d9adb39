-- A step with some closures is a step with closures that may do anything.
use Rattle.slotmap_run.proofs.Common.{Command, DetachCommand, Reply}
use Rattle.slotmap_core.proofs.Common.{State, RunGiven, any_closures, Step, DetachStep, arith}

module _ {K V R E : Type 0} (given : RunGiven K V R E) where
  abbrev pub freed : RunGiven K V R E
  freed = any_closures given.data_of given.reuses

  pub freely : (old : State V) (c : Command K V) (r : Reply K V R E) (new : State V) → Step given old c r new → Step freed old c r new
  freely old c r new h = grind arith

  pub detach_freely : (old : State V) (c : DetachCommand K V) (r : Reply K V R E) (new : State V) → DetachStep given old c r new → DetachStep freed old c r new
  detach_freely old c r new h = grind arith
