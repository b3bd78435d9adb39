-- Runs whose look-ups show the values themselves.
use Rattle.std.proofs.Common.{◌≡◌, ℤ, List, Result, Ok, Err, Option, IfOk, arith}
use Rattle.std.specs.{Prelude.IfSome, Result.result_ok}
use Rattle.slotmap_core.proofs.Common.{Key, Content, State, RunGiven, Step, DetachStep, RunFollows}
use Rattle.slotmap_core.specs.declared.commands.{Command.Command, DetachCommand.DetachCommand, Reply.Reply}
use Rattle.slotmap_core.specs.declared.errors.OutOfMemory.{OutOfMemory}
use Rattle.slotmap_run.proofs.Runs.{run_seen}
use Rattle.slotmap_script.specs.Answered.{shown_values}

module _ {C : Type 0} (From To : State ℤ → C → Reply Key ℤ ℤ OutOfMemory → State ℤ → Type 0) where
  -- a run of one machine is a run of another with the same steps
  follows_each : (old new : Content ℤ) (cs : List C) (rs : List (Reply Key ℤ ℤ OutOfMemory)) → RunFollows From old cs rs new
      → ((s : State ℤ) (c : C) (r : Reply Key ℤ ℤ OutOfMemory) (t : State ℤ) → From s c r t → To s c r t) → RunFollows To old cs rs new
  follows_each old new cs rs follows each = record {
    run = λ s fits. let run = follows.run s fits in (run.0, run_seen From To (λ s. s) each cs rs s run.0 run.1, run.2);
    lasts = follows.lasts;
  }

module _ (what : RunGiven Key ℤ ℤ OutOfMemory) (same : (value shown : ℤ) → what.looks value shown → shown ≡ value) where
  -- what is given, with keys that are their data
  abbrev pub by_data : RunGiven Key ℤ ℤ OutOfMemory
  by_data = record { data_of = λ key. key; looks = what.looks; keeps = what.keeps; makes = what.makes; reuses = what.reuses }

  step_shown : (old : State ℤ) (c : Command Key ℤ) (r : Reply Key ℤ ℤ OutOfMemory) (new : State ℤ) → Step by_data old c r new → Step (shown_values what.reuses) old c r new
  step_shown old c r new h = grind (arith, same)

  detach_shown : (old : State ℤ) (c : DetachCommand Key ℤ) (r : Reply Key ℤ ℤ OutOfMemory) (new : State ℤ) → DetachStep by_data old c r new
      → DetachStep (shown_values what.reuses) old c r new
  detach_shown old c r new h = grind (arith, same)

  -- a run whose look-ups show the values
  pub follows_shown : (old new : Content ℤ) (cs : List (Command Key ℤ)) (rs : List (Reply Key ℤ ℤ OutOfMemory)) → RunFollows (Step by_data) old cs rs new
      → RunFollows (Step (shown_values what.reuses)) old cs rs new
  follows_shown old new cs rs follows = follows_each (Step by_data) (Step (shown_values what.reuses)) old new cs rs follows step_shown

  pub detach_follows_shown : (old new : Content ℤ) (cs : List (DetachCommand Key ℤ)) (rs : List (Reply Key ℤ ℤ OutOfMemory)) → RunFollows (DetachStep by_data) old cs rs new
      → RunFollows (DetachStep (shown_values what.reuses)) old cs rs new
  detach_follows_shown old new cs rs follows = follows_each (DetachStep by_data) (DetachStep (shown_values what.reuses)) old new cs rs follows detach_shown

pub IfSome-from_ok : {T E : Type 0} (r : Result T E) (o : Option T) (P Q : T → Type 0) → o ≡ result_ok r → IfOk r P → ((x : T) → P x → Q x) → IfSome o Q
IfSome-from_ok (Ok x) o P Q e h weaker = rw e (weaker x h)
IfSome-from_ok (Err x) o P Q e h weaker = rw e tt
