-- With which replies the commands of a script are run.
use Rattle.std.specs.Prelude.{◌≡◌, ℤ, Bool, List, ⊤}
use Rattle.slotmap_core.specs.Words.{Key, Content, State, RunGiven, Starts, RunFollows}
use Rattle.slotmap_core.specs.declared.commands.Reply.{Reply}
use Rattle.slotmap_core.specs.declared.errors.OutOfMemory.{OutOfMemory}

-- a look-up shows the value itself; no line calls the other two closures of a run
abbrev pub shown_values : Bool → RunGiven Key ℤ ℤ OutOfMemory
shown_values reuses = record {
  data_of = λ key. key;
  looks = λ value shown. shown ≡ value;
  keeps = λ key before after stays. ⊤;
  makes = λ key made. ⊤;
  reuses = reuses;
}

-- these are replies to these commands, one each: a run of the machine that goes on from the content old and leaves new
abbrev pub Answers : {C : Type 0} → (RunGiven Key ℤ ℤ OutOfMemory → State ℤ → C → Reply Key ℤ ℤ OutOfMemory → State ℤ → Type 0)
    → Bool → Content ℤ → List C → List (Reply Key ℤ ℤ OutOfMemory) → Content ℤ → Type 0
Answers Step reuses old commands replies new = Starts reuses old × RunFollows (Step (shown_values reuses)) old commands replies new
