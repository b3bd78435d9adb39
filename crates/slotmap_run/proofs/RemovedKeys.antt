-- A key that was removed is gone, and no later command finds it.
use Rattle.std.proofs.Common.{◌≡◌, ◌∷◌}
use Rattle.std.specs.FinMap as map
use Rattle.std.specs.FinSet as set
use Rattle.slotmap_run.proofs.Common.{GoneForGood, ShowsLive, ShowsNotLive, RemovesKey, LeavesAttached, FindsNothing, DetachCommand, Reply}
use Rattle.std.proofs.lemmas.Slice.Zip.{AllZip-long}
use Rattle.slotmap_core.proofs.Common.{Key, key_cmp, State, IsIssued, RunGiven, DetachStep, Run, AllZip, RemovedForGood, keys_total, exact_keys, itself, Bool, List, [], true, false, sym, arith}
use Rattle.slotmap_run.proofs.Laws.{Gone, IsGood, good_stays, gone_stays, not_issued}
use Rattle.slotmap_run.proofs.{MapChanges.changes, StepCases.detach_machine, NewRuns.RunsWell}
use Rattle.slotmap_run.proofs.Runs.{run_split, run_keeps, run_keeps_by}
use Rattle.slotmap_core.specs.declared.commands.Command.TheVariants as command
use Rattle.slotmap_core.specs.declared.commands.DetachCommand.TheVariants as detaching

module _ {V : Type 0} where
  -- k was returned, and isn't detached
  pub record Attached (s : State V) (k : Key) : Type 0 where
    pub not_detached : set.contains s.detached k ≡ false
    pub issued : IsIssued s k

  pub live_attached : (s : State V) (k : Key) → IsGood s → map.contains_key s.live k ≡ true → Attached s k
  live_attached s k good live = grind (arith, good.apart k, good.held_issued k)

  pub attached_gone : (s : State V) (k : Key) → Attached s k → map.contains_key s.live k ≡ false → Gone s k
  attached_gone s k attached none = grind (arith, attached.not_detached, attached.issued)

module _ {K V R E : Type 0} (given : RunGiven K V R E) (k : Key) (old : State V) (c : DetachCommand K V) (r : Reply K V R E) (new : State V) (step : DetachStep given old c r new) where
  pub attached_stays : LeavesAttached given.data_of k c r → Attached old k → Attached new k
  attached_stays leaves attached = grind (arith, changes, attached.not_detached, attached.issued)

  pub shown_live : ShowsLive given.data_of k c r → map.contains_key new.live k ≡ true
  shown_live shows = grind (arith, changes, itself keys_total exact_keys k)

  pub shown_not_live : ShowsNotLive given.data_of k c r → map.contains_key new.live k ≡ false
  shown_not_live shows = grind (arith, changes, itself keys_total exact_keys k, map.get-empty {X = V} key_cmp k)

  pub not_live_attached : ShowsNotLive given.data_of k c r → LeavesAttached given.data_of k c r
  not_live_attached shows = grind arith

  -- in a good state, a removed key is gone
  pub removes_gone : RemovesKey given.data_of k c r → IsGood old → Gone new k
  removes_gone removes good = grind (arith, changes, itself keys_total exact_keys k, good.apart k, good.held_issued k, map.get-empty {X = V} key_cmp k)

  gone_finds_nothing : Gone old k → FindsNothing given.data_of k c r
  gone_finds_nothing gone = grind (arith, gone.not_standing, gone.issued, not_issued old k)

  -- no key is live that Retain's closure rejects whatever its value
  pub rejected_not_live : c ≡ detaching.Plain command.Retain → ((key : K) (v w : V) (stays : Bool) → given.data_of key ≡ k → given.keeps key v w stays → stays ≡ false)
      → map.contains_key new.live k ≡ false
  rejected_not_live is rejects = grind arith

module _ {K V R E C : Type 0} (given : RunGiven K V R E) (of : C → DetachCommand K V) where
  -- a step of the machine with detaching
  abbrev pub StepOf : State V → C → Reply K V R E → State V → Type 0
  StepOf old c r new = DetachStep given old (of c) r new

  pub all_good : (cs : List C) (rs : List (Reply K V R E)) (s t : State V) → Run StepOf s cs rs t → IsGood s → IsGood t
  all_good = run_keeps StepOf IsGood (λ old c r new step. good_stays (detach_machine given) old (of c) r new step)

  -- from a state in which a key is gone, no command finds it
  pub none_found : (k : Key) (cs : List C) (rs : List (Reply K V R E)) (s t : State V) → Run StepOf s cs rs t → Gone s k → AllZip (λ c answer. FindsNothing given.data_of k (of c) answer) cs rs
  none_found k [] [] s t run gone = tt
  none_found k (c ∷ cs) (r ∷ rs) s t run gone =
      (gone_finds_nothing given k s (of c) r run.0 run.1 gone, none_found k cs rs run.0 t run.2 (gone_stays (detach_machine given) k s (of c) r run.0 run.1 gone))
  none_found k _ _ s t run gone = absurd run

  pub removed_for_good : (commands : List C) (replies : List (Reply K V R E)) → RunsWell StepOf commands replies → RemovedForGood given.data_of of commands replies
  removed_for_good commands replies well cs ds rs ss k c r e is js removes = grind (arith, run_split, all_good, none_found k ds ss, removes_gone given k)

  pub gone_for_good : (commands : List C) (replies : List (Reply K V R E)) → RunsWell StepOf commands replies → GoneForGood given.data_of of commands replies
  gone_for_good commands replies well cs ds es rs ss us k c d r answer e attached is js live leaves =
      let run = rw (is, js) at well.run in
      let first = run_split StepOf cs rs c r _ _ well.first well.last e run in
      let second = run_split StepOf ds ss d answer es us first.1 well.last (sym (AllZip-long _ ds ss attached)) first.4 in
      let good = all_good cs rs well.first first.0 first.2 well.good in
      let good_then = good_stays (detach_machine given) first.0 (of c) r first.1 first.3 good in
      let was = live_attached first.1 k good_then (shown_live given k first.0 (of c) r first.1 first.3 live) in
      let still = run_keeps_by StepOf (λ s. Attached s k) (λ other told. LeavesAttached given.data_of k (of other) told)
      (λ old other told new leaves step. attached_stays given k old (of other) told new step leaves) ds ss first.1 second.0 attached second.2 was in
      let then = attached_stays given k second.0 (of d) answer second.1 second.3 (not_live_attached given k second.0 (of d) answer second.1 second.3 leaves) still in
      none_found k es us second.1 well.last second.4 (attached_gone second.1 k then (shown_not_live given k second.0 (of d) answer second.1 second.3 leaves))
