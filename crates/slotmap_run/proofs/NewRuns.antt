-- Calls that are each a step of the machine are a run of it, from a state of which its laws hold.
use Rattle.std.proofs.Common.{◌≡◌, ◌+◌, ◌<◌, ◌^◌, ◌++◌}
use Rattle.std.specs.FinSet as set
use Rattle.slotmap_run.proofs.Common.{Knowledge, absent, known_from}
use Rattle.slotmap_core.proofs.Common.{Content, IsContent, IsNew, State, empty_state, retired, Unretiring, Follows, Starts, RunFollows, RunsAnew, Continues, IfOk-weaker, Result, length, refl, ◌∙◌}
use Rattle.slotmap_core.proofs.Common.{Run, Key, IfOk, Bool, List, arith}
use Rattle.slotmap_run.proofs.HoldsIn.{HoldsIn, holds_from, holds_at_first}
use Rattle.slotmap_run.proofs.StateOf.{first_state, first_fits, first_good}
use Rattle.slotmap_run.proofs.Runs.{runs_follow, goes_on_anew, run_seen, goes_on}
use Rattle.slotmap_run.proofs.{Fits.new_fits, Fits.new_lasts, Laws.IsGood, Laws.empty_good}

pub starts : {V : Type 0} (reuses : Bool) (c : Content V) → IsContent reuses c → Starts reuses c
starts reuses c ok = record { valid = ok; state = first_state reuses c ok; fits = first_fits reuses c ok }

module _ {V C R : Type 0} (Step : State V → C → R → State V → Type 0) (cs : List C) (rs : List R) where
  -- the replies are a run from a state of which the laws hold
  pub record RunsWell : Type 0 where
    pub first : State V
    pub good : IsGood first
    pub last : State V
    pub run : Run Step first cs rs last

  well_anew : (new : Content V) → RunsAnew Step cs rs new → RunsWell
  well_anew new run = record { first = empty_state; good = empty_good; last = run.0; run = run.1 }

  well_from : (reuses : Bool) (old new : Content V) → IsContent reuses old → RunFollows Step old cs rs new → RunsWell
  well_from reuses old new ok follows =
      let run = follows.run (first_state reuses old ok) (first_fits reuses old ok) in record { first = first_state reuses old ok; good = first_good reuses old ok; last = run.0; run = run.1 }

-- a machine whose closures may do anything beside one with closures, and what follows from their runs
pub record IsLawful {V C R X : Type 0} (looks any_looks : V → X → Type 0) (Step Any : State V → C → R → State V → Type 0)
    (Laws AnyLaws : (Key → Knowledge V X) → List C → List R → Type 0) : Type 0 where
  pub freely : (old : State V) (c : C) (r : R) (new : State V) → Step old c r new → Any old c r new
  pub laws : (cs : List C) (rs : List R) (well : RunsWell Step cs rs) (start : Key → Knowledge V X) → HoldsIn looks start well.first → Laws start cs rs
  pub any_laws : (cs : List C) (rs : List R) (well : RunsWell Any cs rs) (start : Key → Knowledge V X) → HoldsIn any_looks start well.first → AnyLaws start cs rs
  -- if nothing is retired at the end, nothing ever was
  pub unretired : (cs : List C) (rs : List R) (s t : State V) → Run Step s cs rs t → retired t ≡ set.empty → Run (Unretiring Step) s cs rs t

module _ {V C R X : Type 0} {looks any_looks : V → X → Type 0} {Step Any : State V → C → R → State V → Type 0} {Laws AnyLaws : (Key → Knowledge V X) → List C → List R → Type 0}
    (machine : IsLawful looks any_looks Step Any Laws AnyLaws) (cs : List C) (rs : List R) where
  follows_freely : (old new : Content V) → RunFollows Step old cs rs new → RunFollows Any old cs rs new
  follows_freely old new follows = record {
    run = λ s fits. let run = follows.run s fits in (run.0, run_seen Step Any (λ s. s) machine.freely cs rs s run.0 run.1, run.2);
    lasts = follows.lasts;
  }

  -- what is ensured of calls on a map
  pub record Ran (reuses : Bool) (old new : Content V) : Type 0 where
    pub run : RunFollows Step old cs rs new
    pub goes_on : RunFollows Any old cs rs new
    pub continues : Continues Any AnyLaws reuses old cs rs new
    pub laws : Laws (known_from old) cs rs

  pub ran : (reuses : Bool) (old new : Content V) → IsContent reuses old → Run (Follows Step) old cs rs new → Ran reuses old new
  unfolding well_from well_anew
  ran reuses old new ok served =
      let follows = runs_follow Step cs rs old new served in
      let free = follows_freely old new follows in
      record {
        run = follows;
        goes_on = free;
        continues = record {
          run = λ first earlier told before. goes_on Any old new cs rs free earlier told first before;
          laws =
              λ first earlier told start before. machine.any_laws (earlier ++ cs) (told ++ rs)
              (well_from Any (earlier ++ cs) (told ++ rs) reuses first new start.valid (goes_on Any old new cs rs free earlier told first before))
              (known_from first) (holds_from any_looks first (first_state reuses first start.valid) (first_good reuses first start.valid) refl refl);
          anew = λ earlier told before. goes_on_anew Any old new cs rs free earlier told before;
          laws_anew = λ earlier told before. machine.any_laws (earlier ++ cs) (told ++ rs)
              (well_anew Any (earlier ++ cs) (told ++ rs) new (goes_on_anew Any old new cs rs free earlier told before)) (λ k. absent) (holds_at_first any_looks);
        };
        laws = machine.laws cs rs (well_from Step cs rs reuses old new ok follows) (known_from old) (holds_from looks old (first_state reuses old ok) (first_good reuses old ok) refl refl);
      }

  -- what is ensured of calls on a new map
  pub record RanAnew (new : Content V) : Type 0 where
    pub run : RunsAnew Step cs rs new
    pub none_retired : length cs < 2 ^ 32 → RunsAnew (Unretiring Step) cs rs new
    pub goes_on : RunsAnew Any cs rs new
    pub laws : Laws (λ k. absent) cs rs

  ran_anew : (old new : Content V) → IsNew old → Run (Follows Step) old cs rs new → RanAnew new
  unfolding well_anew
  ran_anew old new start served =
      let follows = runs_follow Step cs rs old new served in
      let run = follows.run empty_state (new_fits old start) in
      let free = (follows_freely old new follows).run empty_state (new_fits old start) in
      record {
        run = run;
        none_retired = λ few.
            let same : length cs + 0 ≡ length cs = omega arith in
            let lasts = follows.lasts 0 (rw same (new_lasts old start (length cs) few)) in
            (run.0, machine.unretired cs rs empty_state run.0 run.1 (run.2.retired ∙ lasts.unretired), run.2);
        goes_on = free;
        laws = machine.laws cs rs (well_anew Step cs rs new run) (λ k. absent) (holds_at_first looks);
      }

module _ {V C R X A B : Type 0} {looks any_looks : V → X → Type 0} {Step Any : State V → C → R → State V → Type 0} {Laws AnyLaws : (Key → Knowledge V X) → List C → List R → Type 0}
    (machine : IsLawful looks any_looks Step Any Laws AnyLaws) (cs : List C) (result : Result A B) (told : A → List R) where
  -- what a function ensures that runs calls on a map, a field for each clause
  pub record RanIfOk (reuses : Bool) (old new : Content V) : Type 0 where
    pub run : IfOk result (λ a. RunFollows Step old cs (told a) new)
    pub goes_on : IfOk result (λ a. RunFollows Any old cs (told a) new)
    pub continues : IfOk result (λ a. Continues Any AnyLaws reuses old cs (told a) new)
    pub laws : IfOk result (λ a. Laws (known_from old) cs (told a))

  pub ran_if_ok : (reuses : Bool) (old new : Content V) → IsContent reuses old → IfOk result (λ a. Run (Follows Step) old cs (told a) new) → RanIfOk reuses old new
  ran_if_ok reuses old new ok served =
      let all = IfOk-weaker result _ (λ a. Ran machine cs (told a) reuses old new) (λ a run. ran machine cs (told a) reuses old new ok run) served in
      record {
        run = IfOk-weaker result _ _ (λ a r. r.run) all;
        goes_on = IfOk-weaker result _ _ (λ a r. r.goes_on) all;
        continues = IfOk-weaker result _ _ (λ a r. r.continues) all;
        laws = IfOk-weaker result _ _ (λ a r. r.laws) all;
      }

  -- what a function ensures that runs calls on a new map, a field for each clause
  pub record RanAnewIfOk (new : A → Content V) : Type 0 where
    pub run : IfOk result (λ a. RunsAnew Step cs (told a) (new a))
    pub none_retired : IfOk result (λ a. length cs < 2 ^ 32 → RunsAnew (Unretiring Step) cs (told a) (new a))
    pub goes_on : IfOk result (λ a. RunsAnew Any cs (told a) (new a))
    pub laws : IfOk result (λ a. Laws (λ k. absent) cs (told a))

  pub anew_if_ok : (new : A → Content V) → IfOk result (λ a. (old : Content V) × IsNew old × Run (Follows Step) old cs (told a) (new a)) → RanAnewIfOk new
  anew_if_ok new served =
      let all = IfOk-weaker result _ (λ a. RanAnew machine cs (told a) (new a)) (λ a run. ran_anew machine cs (told a) run.0 (new a) run.1 run.2) served in
      record {
        run = IfOk-weaker result _ _ (λ a r. r.run) all;
        none_retired = IfOk-weaker result _ _ (λ a r. r.none_retired) all;
        goes_on = IfOk-weaker result _ _ (λ a r. r.goes_on) all;
        laws = IfOk-weaker result _ _ (λ a r. r.laws) all;
      }
