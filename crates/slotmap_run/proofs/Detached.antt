-- No later insert returns a detached key, and it can be reattached.
use Rattle.std.proofs.Common.{◌≡◌, ◌⊎◌}
use Rattle.std.specs.FinSet as set
use Rattle.slotmap_run.proofs.Common.{DetachCommand, Reply}
use Rattle.slotmap_core.proofs.Common.{State, RunGiven, DetachStep, DetachedNotReissued, DetachedReattaches, ReattachBinds, Spares, keys_total, exact_keys, itself, List, Some, true, false, arith}
use Rattle.slotmap_run.proofs.Runs.{run_split, run_keeps, run_keeps_by}
use Rattle.slotmap_run.proofs.{MapChanges.changes, StepCases.detach_machine, StepCases.detached_stays, NewRuns.RunsWell}
use Rattle.slotmap_run.proofs.Laws.{IsGood, good_stays, told_new, weaker}
use Rattle.slotmap_core.specs.declared.commands.DetachCommand.TheVariants as detaching
use Rattle.slotmap_core.specs.declared.commands.Reply.TheVariants as reply

module _ {K V R E : Type 0} (given : RunGiven K V R E) where
  pub detached_not_reissued : (commands : List (DetachCommand K V)) (replies : List (Reply K V R E)) → RunsWell (DetachStep given) commands replies
      → DetachedNotReissued given.data_of commands replies
  detached_not_reissued commands replies well cs ds rs ss key v e is js =
      grind (arith, run_split (DetachStep given) cs rs, (run_keeps (DetachStep given) IsGood (good_stays (detach_machine given)) cs rs well.first), weaker, told_new (detach_machine given) ds ss)

  answered : (old : State V) (key : K) (w : V) (answer : Reply K V R E) (new : State V) → set.contains old.detached (given.data_of key) ≡ true
      → DetachStep given old (detaching.Reattach key w) answer new → (answer ≡ reply.Done) ⊎ ((given.reuses ≡ false) × (answer ≡ reply.Memory (Some w)))
  answered old key w answer new h step = grind arith

  pub detached_reattaches : (commands : List (DetachCommand K V)) (replies : List (Reply K V R E)) → RunsWell (DetachStep given) commands replies
      → DetachedReattaches given.data_of given.reuses commands replies
  detached_reattaches commands replies well cs ds es rs ss us key v w answer e f spares is js =
      let run = rw (is, js) at well.run in
      let first = run_split (DetachStep given) cs rs _ _ _ _ _ _ e run in
      let second = run_split (DetachStep given) ds ss _ _ _ _ _ _ f first.4 in
      let aside : set.contains first.1.detached (given.data_of key) ≡ true = grind (arith, changes, itself keys_total exact_keys (given.data_of key), first.3.1) in
      let still = run_keeps_by (DetachStep given) (λ s. set.contains s.detached (given.data_of key) ≡ true) (Spares given.data_of (given.data_of key))
      (λ old c r new spares step. detached_stays given old c r new step (given.data_of key) spares) ds ss first.1 second.0 spares second.2 aside in
      answered second.0 key w answer second.1 still second.3

  pub reattach_binds : (commands : List (DetachCommand K V)) (replies : List (Reply K V R E)) → RunsWell (DetachStep given) commands replies → ReattachBinds commands replies
  reattach_binds commands replies well cs ds rs ss key w u answer e is js = grind (arith, run_split, changes)
