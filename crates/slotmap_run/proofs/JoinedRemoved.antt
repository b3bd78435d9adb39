-- A key that a joined run removed from the primary map is gone for good: the law of both joined runs.
use Rattle.std.proofs.Common.{◌≡◌, ◌∷◌}
use Rattle.slotmap_run.proofs.Common.{JoinedGiven, JoinedStep, JoinedDetachStep, StepRemove, StepDetach, StepReattach, DetachCommand, Plain, JoinedCommand, JoinedDetachCommand, JoinedReply}
use Rattle.slotmap_run.proofs.Common.{Detach, Reattach, Reply}
use Rattle.slotmap_core.proofs.Common.{Content, State, DetachStep, Run, Starts, AllZip, Joined, named, RunsBeside, ℕ, List, [], Option, Some, None, refl, ap, ◌∙◌, subst, arith}
use Rattle.slotmap_core.specs.{JoinedLaw.JoinedFindsNothing, JoinedLaw.JoinedRemovedForGood, Secondary.Pairs}
use Rattle.slotmap_run.proofs.Laws.{Gone, IsGood, good_stays, gone_stays}
use Rattle.slotmap_run.proofs.{LostKeys.fits_good, StepCases.detach_machine, RemovedKeys.removes_gone, Joins.closed, JoinedCallers.still_named, Runs.run_split, Runs.run_keeps}
use Rattle.slotmap_core.specs.declared.commands.Command.TheVariants as first
use Rattle.slotmap_core.specs.declared.commands.Reply.TheVariants as first_reply
use Rattle.slotmap_core.specs.declared.joined.JoinedCommand.TheVariants as command
use Rattle.slotmap_core.specs.declared.joined.JoinedDetachCommand.TheVariants as detaching
use Rattle.slotmap_core.specs.declared.joined.JoinedReply.TheVariants as reply

module _ {K V W R : Type 0} (given : JoinedGiven K W R) where
  -- what each step of the primary map's machine keeps, each joined step keeps
  module _ (P : State V → Type 0)
      (keeps : (old : State V) (c : DetachCommand K V) (r : Reply K V (Unit {0}) (Unit {0})) (new : State V) → DetachStep (closed given) old c r new → P old → P new) where
    kept_removing : (o : Option K) (old : Joined K V W) (r : JoinedReply K V W R) (new : Joined K V W) → StepRemove given old o r new → P old.primary → P new.primary
    kept_removing (Some k) old (reply.Taken taken) new step p = keeps old.primary (Plain (first.Remove k)) (first_reply.Taken taken) new.primary step.0.0 p
    kept_removing None old reply.NoKey new step p = rw step p
    kept_removing o old r new step p = grind (arith, p)

    kept_detaching : (o : Option K) (old : Joined K V W) (r : JoinedReply K V W R) (new : Joined K V W) → StepDetach given old o r new → P old.primary → P new.primary
    kept_detaching (Some k) old (reply.Taken taken) new step p = keeps old.primary (Detach k) (first_reply.Taken taken) new.primary step.0.0 p
    kept_detaching None old reply.NoKey new step p = rw step p
    kept_detaching o old r new step p = grind (arith, p)

    kept_reattaching : (o : Option K) (v : V) (old : Joined K V W) (r : JoinedReply K V W R) (new : Joined K V W) → StepReattach given old o v r new → P old.primary → P new.primary
    kept_reattaching (Some k) v old reply.Done new step p = keeps old.primary (Reattach k v) first_reply.Done new.primary step.0.0 p
    kept_reattaching (Some k) v old (reply.NotDetached back) new step p = keeps old.primary (Reattach k v) (first_reply.NotDetached back) new.primary step.0.0 p
    kept_reattaching (Some k) v old (reply.Memory back) new step p = keeps old.primary (Reattach k v) (first_reply.Memory (Some back)) new.primary step.0.0 p
    kept_reattaching None v old (reply.NoKeyFirst back) new step p = rw step.1 p
    kept_reattaching o v old r new step p = grind (arith, p)

    kept : (old : Joined K V W) (c : JoinedDetachCommand V W) (r : JoinedReply K V W R) (new : Joined K V W) → JoinedDetachStep given old c r new → P old.primary → P new.primary
    kept old (detaching.Plain (command.Insert v)) (reply.Key k) new step p = keeps old.primary (Plain (first.Insert v)) (first_reply.Key k) new.primary step.0.0 p
    kept old (detaching.Plain (command.Insert v)) (reply.Full back) new step p = keeps old.primary (Plain (first.Insert v)) (first_reply.Full (Some back)) new.primary step.0.0 p
    kept old (detaching.Plain (command.Insert v)) (reply.Memory back) new step p = keeps old.primary (Plain (first.Insert v)) (first_reply.Memory (Some back)) new.primary step.0.0 p
    kept old (detaching.Plain (command.Insert v)) r new step p = absurd (grind (arith, step))
    kept old (detaching.Plain (command.Remove n)) r new step p = kept_removing (named old.keys n) old r new step p
    kept old (detaching.Plain (command.Put n w)) r new step p = let same : new.primary ≡ old.primary = grind arith in rw same p
    kept old (detaching.Plain (command.Look n)) r new step p = let same : new.primary ≡ old.primary = grind arith in rw same p
    kept old (detaching.Plain (command.Take n)) r new step p = let same : new.primary ≡ old.primary = grind arith in rw same p
    kept old (detaching.Detach n) r new step p = kept_detaching (named old.keys n) old r new step p
    kept old (detaching.Reattach n v) r new step p = kept_reattaching (named old.keys n) v old r new step p

  -- the number names a key that is gone
  record NamesGone (n : ℕ) (s : Joined K V W) : Type 0 where
    key : K
    names : named s.keys n ≡ Some key
    gone : Gone s.primary (given.data_of key)

  module _ (n : ℕ) (old : Joined K V W) (c : JoinedDetachCommand V W) (r : JoinedReply K V W R) (new : Joined K V W) (step : JoinedDetachStep given old c r new) where
    still_gone : NamesGone n old → NamesGone n new
    still_gone was = record {
      key = was.key;
      names = still_named given n old c r new step was.key was.names;
      gone = kept (λ s. Gone s (given.data_of was.key)) (gone_stays (detach_machine (closed given)) (given.data_of was.key)) old c r new step was.gone;
    }

    removes : (v : V) → c ≡ detaching.Plain (command.Remove n) → r ≡ reply.Taken (Some v) → IsGood old.primary → NamesGone n new
    removes v is_c is_r good =
        let taken = subst (λ x. JoinedDetachStep given old c x new) is_r step in
        of_named (named old.keys n) refl (subst (λ x. JoinedDetachStep given old x (reply.Taken (Some v)) new) is_c taken)
      where
        of_named : (o : Option K) → named old.keys n ≡ o → StepRemove given old o (reply.Taken (Some v)) new → NamesGone n new
        of_named (Some k) is taken = record {
          key = k;
          names = ap (λ keys. named keys n) taken.1 ∙ is;
          gone = removes_gone (closed given) (given.data_of k) old.primary (Plain (first.Remove k)) (first_reply.Taken (Some v)) new.primary taken.0.0 refl good;
        }
        of_named None is taken = absurd taken

module _ {K V W R C : Type 0} (given : JoinedGiven K W R) (of : C → JoinedDetachCommand V W) where
  abbrev StepOf : Joined K V W → C → JoinedReply K V W R → Joined K V W → Type 0
  StepOf old c r new = JoinedDetachStep given old (of c) r new

  none_found : (n : ℕ) (cs : List C) (rs : List (JoinedReply K V W R)) (s t : Joined K V W) → Run StepOf s cs rs t → NamesGone given n s → AllZip (λ c r. JoinedFindsNothing n (of c) r) cs rs
  none_found n [] [] s t run was = tt
  none_found n (c ∷ cs) (r ∷ rs) s t run was = grind (arith, none_found n cs rs run.0 t run.2 (still_gone given n s (of c) r run.0 run.1 was))
  none_found n _ _ s t run was = absurd run

  removed_in_run : (commands : List C) (replies : List (JoinedReply K V W R)) (s t : Joined K V W) → Run StepOf s commands replies t → IsGood s.primary
      → JoinedRemovedForGood of commands replies
  removed_in_run commands replies s t whole good cs ds rs ss n c v e is_c is js =
      let run = rw (is, js) at whole in
      let first = run_split StepOf cs rs c (reply.Taken (Some v)) ds ss s t e run in
      let still = run_keeps StepOf (λ u. IsGood u.primary) (λ old c r new step. kept given IsGood (good_stays (detach_machine (closed given))) old (of c) r new step) cs rs s first.0 first.2 good in
      none_found n ds ss first.1 t first.4 (removes given n first.0 (of c) (reply.Taken (Some v)) first.1 first.3 v is_c refl still)

-- from the clauses `starts` and `run` of `run_joined`
pub joined_removed_for_good : {K V W R : Type 0} (given : JoinedGiven K W R) (old new : Content V) (beside after : Pairs W) (commands : List (JoinedCommand V W))
    (replies : List (JoinedReply K V W R))
    → Starts given.reuses old → RunsBeside (JoinedStep given) old beside commands replies new after → JoinedRemovedForGood detaching.Plain commands replies
joined_removed_for_good given old new beside after commands replies starts run =
    let ran = run starts.state starts.fits in removed_in_run given detaching.Plain commands replies _ ran.0 ran.1 (fits_good given.reuses starts.state old starts.valid starts.fits)

-- and of `run_joined_detaching`
pub joined_detach_removed_for_good : {K V W R : Type 0} (given : JoinedGiven K W R) (old new : Content V) (beside after : Pairs W) (commands : List (JoinedDetachCommand V W))
    (replies : List (JoinedReply K V W R))
    → Starts given.reuses old → RunsBeside (JoinedDetachStep given) old beside commands replies new after → JoinedRemovedForGood (λ c. c) commands replies
joined_detach_removed_for_good given old new beside after commands replies starts run =
    let ran = run starts.state starts.fits in removed_in_run given (λ c. c) commands replies _ ran.0 ran.1 (fits_good given.reuses starts.state old starts.valid starts.fits)
