-- The laws of the two machines, and calls on maps as a run on the contents of the maps.
use Rattle.std.proofs.Common.{◌≡◌}
use Rattle.slotmap_run.proofs.Common.{map-id, Command, DetachCommand, Reply, Knowledge, ReadsWhatWasPut, Served, StartsNew}
use Rattle.slotmap_core.proofs.Common.{Content, IsContent, RunGiven, any_closures, DetachStep, Follows, DetachLaws, LastFreedFirst, no_places, IfOk-weaker, Result, is_some}
use Rattle.slotmap_core.proofs.Common.{Key, IsNew, State, Step, Run, Laws, IfOk, List, Bool, true, subst}
use Rattle.slotmap_run.proofs.Detached.{detached_not_reissued, detached_reattaches, reattach_binds}
use Rattle.slotmap_run.proofs.AnyClosures.{detach_freely, freely, freed}
use Rattle.slotmap_run.proofs.{StepCases.plain_machine, StepCases.detach_machine, RemovedKeys.removed_for_good, RemovedKeys.gone_for_good, ReadsPut.reads_what_was_put, HoldsIn.HoldsIn}
use Rattle.slotmap_run.proofs.{Laws.told_new, Laws.unretired, Orders.lifo_new, Orders.lifo_run, Runs.run_seen}
use Rattle.slotmap_run.proofs.NewRuns.{ran_if_ok, RanAnewIfOk, anew_if_ok, RunsWell, IsLawful, RanIfOk}
use Rattle.slotmap_run.proofs.Promised.{plain_promise, detach_promise, reserve_holds}
use Rattle.slotmap_core.specs.declared.commands.DetachCommand.TheVariants as detaching

module _ {K V R E : Type 0} (given : RunGiven K V R E) where
  laws : (commands : List (Command K V)) (replies : List (Reply K V R E)) (well : RunsWell (Step given) commands replies)
      (start : Key → Knowledge V R) → HoldsIn given.looks start well.first → Laws given.data_of given.looks start commands replies
  laws cs rs well start holds = let m = plain_machine given in record {
    reads = reads_what_was_put given detaching.Plain cs rs well.first well.last well.run start holds;
    no_key_twice = (told_new m cs rs well.first well.last well.run).1;
    removed_for_good = removed_for_good given detaching.Plain cs rs well;
    gone_for_good = gone_for_good given detaching.Plain cs rs well;
    reserve_holds = reserve_holds m (plain_promise given) cs rs well;
  }

  detach_laws : (commands : List (DetachCommand K V)) (replies : List (Reply K V R E)) (well : RunsWell (DetachStep given) commands replies)
      (start : Key → Knowledge V R) → HoldsIn given.looks start well.first → DetachLaws given.data_of given.looks given.reuses start commands replies
  detach_laws cs rs well start holds = let m = detach_machine given in record {
    reads = subst (λ l. ReadsWhatWasPut given.data_of given.looks start l rs) (map-id cs) (reads_what_was_put given (λ command. command) cs rs well.first well.last well.run start holds);
    no_key_twice = (told_new m cs rs well.first well.last well.run).1;
    removed_for_good = removed_for_good given (λ command. command) cs rs well;
    gone_for_good = gone_for_good given (λ command. command) cs rs well;
    reserve_holds = reserve_holds m (detach_promise given) cs rs well;
    not_reissued = detached_not_reissued given cs rs well;
    reattaches = detached_reattaches given cs rs well;
    binds = reattach_binds given cs rs well;
  }

module _ {K V R E : Type 0} (given : RunGiven K V R E) where
  pub plain_lawful : IsLawful given.looks (λ v r. Unit {0}) (Step given) (Step (any_closures given.data_of given.reuses)) (Laws given.data_of given.looks) (Laws given.data_of (λ v r. Unit {0}))
  plain_lawful = record { freely = freely given; laws = laws given; any_laws = laws (freed given); unretired = unretired (plain_machine given) }

  pub detach_lawful : IsLawful given.looks (λ v r. Unit {0}) (DetachStep given) (DetachStep (any_closures given.data_of given.reuses))
      (DetachLaws given.data_of given.looks given.reuses) (DetachLaws given.data_of (λ v r. Unit {0}) given.reuses)
  detach_lawful = record { freely = detach_freely given; laws = detach_laws given; any_laws = detach_laws (freed given); unretired = unretired (detach_machine given) }

module _ {M K V R E C A B : Type 0} (Machine : RunGiven K V R E → State V → C → Reply K V R E → State V → Type 0) (of : C → DetachCommand K V) (given : RunGiven K V R E)
    {Any : State V → C → Reply K V R E → State V → Type 0} {Laws AnyLaws : (Key → Knowledge V R) → List C → List (Reply K V R E) → Type 0}
    {looks any_looks : V → R → Type 0} (machine : IsLawful looks any_looks (Machine given) Any Laws AnyLaws)
    (content : M → Content V) (cs : List C) (result : Result A B) (told : A → List (Reply K V R E)) where
  -- the commands are run on a map, one after the other
  abbrev pub Serves : List (Reply K V R E) → M → M → Type 0
  Serves rs old new = Run (λ old c r new. Served Machine of given (content old) c r (content new)) old cs rs new

  -- each command that is run on a map is a step of the machine on its content
  follow : (rs : List (Reply K V R E)) (old new : M) → Serves rs old new → Run (Follows (Machine given)) (content old) cs rs (content new)
  follow rs old new served = run_seen _ _ content (λ s c r t h. h.follows) cs rs old new served

  pub all_ran : (old new : M) → IsContent given.reuses (content old) → IfOk result (λ a. Serves (told a) old new) → RanIfOk machine cs result told given.reuses (content old) (content new)
  all_ran old new ok served = ran_if_ok machine cs result told given.reuses (content old) (content new) ok (IfOk-weaker result _ _ (λ a run. follow (told a) old new run) served)

  pub all_anew : (reuses stacked : Bool) (new : A → M) → IfOk result (λ a. (first : M) × StartsNew reuses stacked (content first) × Serves (told a) first (new a))
      → RanAnewIfOk machine cs result told (λ a. content (new a))
  all_anew reuses stacked new served =
      anew_if_ok machine cs result told (λ a. content (new a)) (IfOk-weaker result _ _ (λ a run. (content run.0, run.1.new, follow (told a) run.0 (new a) run.2)) served)

-- inserts reuse the slot freed last, from a new map that keeps a stack
pub in_order : {M K V R E : Type 0} (given : RunGiven K V R E) (content : M → Content V) (cs : List (DetachCommand K V)) (rs : List (Reply K V R E)) (old new : M)
    → Run (λ old c r new. Served DetachStep (λ c. c) given (content old) c r (content new)) old cs rs new
    → (reuses : Bool) → IsContent reuses (content old) → IsNew (content old) → is_some (content old).stack ≡ true → LastFreedFirst given.data_of cs rs
in_order given content cs rs old new served reuses ok start stacked basic told = lifo_run given.data_of no_places (content old) (content new) cs rs (lifo_new reuses (content old) ok start stacked)
    (run_seen _ _ content (λ s c r t h. h.orders) cs rs old new served) basic told
