-- What a reserve promised is kept.
use Rattle.std.proofs.Common.{◌≡◌, ◌+◌, ◌≤◌, ◌∷◌, cond}
use Rattle.std.proofs.lemmas.List.Sums.{sum_by-cons}
use Rattle.std.specs.List.{count_by}
use Rattle.slotmap_run.proofs.Common.{in_use, Command, Reply}
use Rattle.slotmap_core.proofs.Common.{State, most, RunGiven, Run, Step, DetachStep, needs_room, detach_needs_room, IsRefusal, ReserveHolds, Bool, List, [], true, false, arith}
use Rattle.slotmap_run.proofs.Laws.{IsMachine, IsGood, good_stays}
use Rattle.slotmap_run.proofs.{Runs.run_split, Runs.run_keeps, NewRuns.RunsWell}
use Rattle.slotmap_core.specs.declared.commands.DetachCommand.TheVariants as detaching

-- what the commands of a machine that need room do with the inserts that are owed
pub record KeepsPromise {V C K R E : Type 0} (Machine : State V → C → Reply K V R E → State V → Type 0) (needs_room : C → Bool) : Type 0 where
  -- if what is owed is within the limit, such a command fails only if nothing is owed
  pub refused : (old : State V) (c : C) (r : Reply K V R E) (new : State V) → needs_room c ≡ true → Machine old c r new → IsRefusal r
      → in_use old + old.promised ≤ most → old.promised ≡ 0
  -- it lowers what is owed by at most 1
  pub lowers : (old : State V) (c : C) (r : Reply K V R E) (new : State V) → needs_room c ≡ true → Machine old c r new → old.promised ≤ new.promised + 1
  -- no other command does
  pub keeps : (old : State V) (c : C) (r : Reply K V R E) (new : State V) → needs_room c ≡ false → Machine old c r new → old.promised ≤ new.promised

module _ {K V R E : Type 0} (given : RunGiven K V R E) where
  pub detach_promise : KeepsPromise (DetachStep given) detach_needs_room
  detach_promise = record {
    refused = λ old c r new grows step is within. grind arith;
    lowers = λ old c r new grows step. grind arith;
    keeps = λ old c r new grows step. grind arith;
  }

  pub plain_promise : KeepsPromise (Step given) needs_room
  plain_promise = record {
    refused = λ old c. detach_promise.refused old (detaching.Plain c);
    lowers = λ old c. detach_promise.lowers old (detaching.Plain c);
    keeps = λ old c. detach_promise.keeps old (detaching.Plain c);
  }

module _ {K V R E C : Type 0} {given : RunGiven K V R E} {Machine : State V → C → Reply K V R E → State V → Type 0} {of : Command K V → C} (m : IsMachine given Machine of)
    {needs_room : C → Bool} (promise : KeepsPromise Machine needs_room) where
  -- a run lowers what is owed by at most the number of such commands
  still_promised : (cs : List C) (rs : List (Reply K V R E)) (s t : State V) → Run Machine s cs rs t → s.promised ≤ t.promised + count_by needs_room cs
  still_promised [] [] s t run = rw run (omega arith)
  still_promised (c ∷ cs) (r ∷ rs) s t run =
      grind (arith, sum_by-cons (λ x. cond (needs_room x) 1 0) c cs, promise.lowers s c r run.0, promise.keeps s c r run.0, still_promised cs rs run.0 t run.2)
  still_promised _ _ s t run = absurd run

  pub reserve_holds : (commands : List C) (replies : List (Reply K V R E)) → RunsWell Machine commands replies → ReserveHolds of needs_room commands replies
  reserve_holds commands replies well cs ds es rs ss us n c r e f few such is js refusal =
      grind (arith, run_split, run_split Machine ds ss, still_promised ds ss, run_keeps Machine IsGood, good_stays m, promise.refused)
