-- What a run takes out for good, by its states and its closures, and by positions: for callers, who know what the map held
-- before, or which keys `keep` rejects.
use Rattle.std.proofs.Common.{◌≡◌, ◌⊎◌, ◌+◌, ◌-◌, ◌<◌, ◌∷◌, ◌++◌}
use Rattle.std.specs.FinMap as map
use Rattle.slotmap_run.proofs.Common.{ShowsLive, ShowsNotLive, LeavesAttached, FindsNothing, DetachCommand, Reply}
use Rattle.slotmap_core.proofs.Common.{Key, Content, IsContent, State, RunGiven, Run, RunFollows, Fits, Starts, IsLive, ℕ, Bool, List, length, slice_get, Some, true, false, ◌∙◌, subst, arith}
use Rattle.slotmap_core.proofs.Common.{sym, ap}
use Rattle.slotmap_core.proofs.General.Positions.{split_at, stands_after, before_in, zipped_at, zipped_by_positions}
use Rattle.slotmap_core.proofs.ForCallers.RemovalCallers.{StaysAttached}
use Rattle.slotmap_run.proofs.RemovedKeys.{Attached, live_attached, attached_gone, attached_stays, shown_live, shown_not_live, not_live_attached, rejected_not_live, StepOf, all_good, none_found}
use Rattle.slotmap_run.proofs.{Fits.used_same, Laws.IsGood, Laws.good_stays, StepCases.detach_machine, Runs.run_split, Runs.run_keeps_by}
use Rattle.slotmap_core.specs.declared.commands.Command.TheVariants as command
use Rattle.slotmap_core.specs.declared.commands.DetachCommand.TheVariants as detaching

-- a state that fits a map keeps all laws
pub fits_good : {V : Type 0} (reuses : Bool) (s : State V) (c : Content V) → IsContent reuses c → Fits s c → IsGood s
fits_good reuses s c ok fits = grind (arith, fits.live, fits.detached, fits.issued, ok.not_live_and_detached, used_same s c fits, fits.promised, ok.room_fits)

module _ {K V R E C : Type 0} (given : RunGiven K V R E) (of : C → DetachCommand K V) (k : Key) where
  -- whatever value k has, `keep` returns false
  abbrev pub Rejects : Type 0
  Rejects = (key : K) (v w : V) (stays : Bool) → given.data_of key ≡ k → given.keeps key v w stays → stays ≡ false

  -- k isn't live after the command: by its reply, or since `keep` rejects it
  abbrev pub Loses : C → Reply K V R E → Type 0
  Loses c r = ShowsNotLive given.data_of k (of c) r ⊎ ((of c ≡ detaching.Plain command.Retain) × Rejects)

  module _ (old : State V) (c : C) (r : Reply K V R E) (new : State V) (step : StepOf given of old c r new) where
    lost : Loses c r → map.contains_key new.live k ≡ false
    lost loses = grind (arith, shown_not_live, rejected_not_live)

    lost_attached : Loses c r → LeavesAttached given.data_of k (of c) r
    lost_attached loses = grind (arith, not_live_attached)

  module _ (commands : List C) (replies : List (Reply K V R E)) (s t : State V) (run : Run (StepOf given of) s commands replies t) (good : IsGood s)
      (i j : ℕ) (c d : C) (r answer : Reply K V R E) (less : i < j)
      (is_c : slice_get commands i ≡ Some c) (is_r : slice_get replies i ≡ Some r) (loses : Loses c r)
      (is_d : slice_get commands j ≡ Some d) (is_answer : slice_get replies j ≡ Some answer) where
    -- A key that is live at the start isn't found once a command took it out, if no Detach before that command returned its value
    pub lost_not_found : map.contains_key s.live k ≡ true
        → ((n : ℕ) (b : C) (q : Reply K V R E) → n < i → slice_get commands n ≡ Some b → slice_get replies n ≡ Some q → LeavesAttached given.data_of k (of b) q)
        → FindsNothing given.data_of k (of d) answer
    lost_not_found live stays =
        let asked = split_at commands i c is_c in
        let told = split_at replies i r is_r in
        let long : length asked.before ≡ length told.before = asked.at ∙ sym told.at in
        let whole = subst (λ (x : List (Reply K V R E)). Run (StepOf given of) s (asked.before ++ c ∷ asked.after) x t) told.is
        (subst (λ (x : List C). Run (StepOf given of) s x replies t) asked.is run) in
        let cut = run_split (StepOf given of) asked.before told.before c r asked.after told.after s t long whole in
        let leave = zipped_by_positions (λ b q. LeavesAttached given.data_of k (of b) q) asked.before told.before long (λ n b q inside is_b is_q.
        stays n b q (omega (arith, asked.at)) (before_in asked n b is_b) (before_in told n q is_q)) in
        let still = run_keeps_by (StepOf given of) (λ u. Attached u k) (λ b q. LeavesAttached given.data_of k (of b) q)
        (λ old b q new leaves step. attached_stays given k old (of b) q new step leaves) asked.before told.before s cut.0 leave cut.2 (live_attached s k good live) in
        let then = attached_stays given k cut.0 (of c) r cut.1 cut.3 (lost_attached cut.0 c r cut.1 cut.3 loses) still in
        let none = none_found given of k asked.after told.after cut.1 t cut.4 (attached_gone cut.1 k then (lost cut.0 c r cut.1 cut.3 loses)) in
        let at : i + 1 + (j - (i + 1)) ≡ j = omega arith in
        zipped_at _ asked.after told.after (j - (i + 1)) d answer none
        (stands_after asked (j - (i + 1)) ∙ ap (slice_get commands) at ∙ is_d) (stands_after told (j - (i + 1)) ∙ ap (slice_get replies) at ∙ is_answer)

  module _ (commands : List C) (replies : List (Reply K V R E)) (s t : State V) (run : Run (StepOf given of) s commands replies t) (good : IsGood s)
      (h i j : ℕ) (b c d : C) (q r answer : Reply K V R E) (earlier : h < i) (less : i < j)
      (is_b : slice_get commands h ≡ Some b) (is_q : slice_get replies h ≡ Some q) (live : ShowsLive given.data_of k (of b) q)
      (stays : StaysAttached given.data_of of commands replies k h i)
      (is_c : slice_get commands i ≡ Some c) (is_r : slice_get replies i ≡ Some r) (loses : Loses c r)
      (is_d : slice_get commands j ≡ Some d) (is_answer : slice_get replies j ≡ Some answer) where
    -- the same of a key that an earlier reply showed to be live
    pub shown_lost_not_found : FindsNothing given.data_of k (of d) answer
    shown_lost_not_found =
        let asked = split_at commands h b is_b in
        let told = split_at replies h q is_q in
        let whole = subst (λ (x : List (Reply K V R E)). Run (StepOf given of) s (asked.before ++ b ∷ asked.after) x t) told.is
        (subst (λ (x : List C). Run (StepOf given of) s x replies t) asked.is run) in
        let cut = run_split (StepOf given of) asked.before told.before b q asked.after told.after s t (asked.at ∙ sym told.at) whole in
        let then = good_stays (detach_machine given) cut.0 (of b) q cut.1 cut.3 (all_good given of asked.before told.before s cut.0 cut.2 good) in
        let at_i : h + 1 + (i - (h + 1)) ≡ i = omega arith in
        let at_j : h + 1 + (j - (h + 1)) ≡ j = omega arith in
        lost_not_found asked.after told.after cut.1 t cut.4 then (i - (h + 1)) (j - (h + 1)) c d r answer (omega arith)
        (stands_after asked (i - (h + 1)) ∙ ap (slice_get commands) at_i ∙ is_c)
        (stands_after told (i - (h + 1)) ∙ ap (slice_get replies) at_i ∙ is_r) loses
        (stands_after asked (j - (h + 1)) ∙ ap (slice_get commands) at_j ∙ is_d) (stands_after told (j - (h + 1)) ∙ ap (slice_get replies) at_j ∙ is_answer)
        (shown_live given k cut.0 (of b) q cut.1 cut.3 live)
        (λ n x y before is_x is_y. stays (h + 1 + n) x y (omega arith) (omega arith) (sym (stands_after asked n) ∙ is_x) (sym (stands_after told n) ∙ is_y))

  module _ {reuses : Bool} {old new : Content V} (commands : List C) (replies : List (Reply K V R E)) (starts : Starts reuses old) (follows : RunFollows (StepOf given of) old commands replies new)
      (i j : ℕ) (c d : C) (r answer : Reply K V R E) (less : i < j) (is_c : slice_get commands i ≡ Some c) (is_r : slice_get replies i ≡ Some r) (loses : Loses c r)
      (is_d : slice_get commands j ≡ Some d) (is_answer : slice_get replies j ≡ Some answer) where
    -- the same of a key that is live in the map before the run, from the clauses `starts` and `run`
    pub live_lost_not_found : IsLive old k
        → ((n : ℕ) (b : C) (q : Reply K V R E) → n < i → slice_get commands n ≡ Some b → slice_get replies n ≡ Some q → LeavesAttached given.data_of k (of b) q)
        → FindsNothing given.data_of k (of d) answer
    live_lost_not_found live stays =
        let ran = follows.run starts.state starts.fits in
        lost_not_found commands replies starts.state ran.0 ran.1 (fits_good reuses starts.state old starts.valid starts.fits) i j c d r answer less is_c is_r loses is_d is_answer
        (rw starts.fits.live live) stays
