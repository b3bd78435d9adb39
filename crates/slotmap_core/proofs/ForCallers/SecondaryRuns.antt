-- Runs of secondary maps agree if no allocation fails: for callers, who run the same commands on two maps.
-- For runs and callers.
use Rattle.std.proofs.Common.{◌≡◌, List, [], ◌∷◌, refl, sym, ◌∙◌, arith}
use Rattle.slotmap_core.specs.Words.{AllByRecursion, Key, Pairs, Run, HadMemory, Shows, seen_by, EachAgrees}
use Rattle.slotmap_core.specs.SecondaryStep.{SideGiven, SideStep}
use Rattle.slotmap_core.specs.declared.secondary.{SecondaryCommand.SecondaryCommand, SecondaryReply.SecondaryReply}

module _ {K V R : Type 0} (data_of : K → Key) (looks others_look : V → R → Type 0) (same : (v : V) (r s : R) → looks v r → others_look v s → s ≡ r) where
  abbrev one : SideGiven K V R
  one = record { data_of = data_of; looks = looks }

  abbrev other : SideGiven K V R
  other = record { data_of = data_of; looks = others_look }

  -- Two maps that held the same, and show the same of each value, give the same replies and then hold the same
  pub runs_agree : (old : Pairs V) (cs : List (SecondaryCommand K V)) (rs ss : List (SecondaryReply V R)) (new left : Pairs V)
      → Run (SideStep one) old cs rs new → AllByRecursion HadMemory rs → Run (SideStep other) old cs ss left → AllByRecursion HadMemory ss → (ss ≡ rs) × (left ≡ new)
  runs_agree old [] [] [] new left run had there had_there = (refl, there ∙ sym run)
  runs_agree old (c ∷ cs) (r ∷ rs) (s ∷ ss) new left run had there had_there = grind (arith, runs_agree run.0 cs rs ss new left run.2 had.1)
  runs_agree old _ _ _ new left run had there had_there = absurd (grind arith)

module _ {K V R : Type 0} (data_of : K → Key) (looks : V → R → Type 0) (f : V → R) (shows : Shows looks f) where
  abbrev given : SideGiven K V R
  given = record { data_of = data_of; looks = looks }

  -- a step that shows what f returns is a step of the machine that f tells
  seen_step : (old : Pairs V) (c : SecondaryCommand K V) (r : SecondaryReply V R) (new : Pairs V) → SideStep given old c r new → SideStep (seen_by data_of f) old c r new
  seen_step old c r new step = grind (arith, shows)

  pub run_seen_by : (old : Pairs V) (cs : List (SecondaryCommand K V)) (rs : List (SecondaryReply V R)) (new : Pairs V)
      → Run (SideStep given) old cs rs new → Run (SideStep (seen_by data_of f)) old cs rs new
  run_seen_by old [] [] new run = run
  run_seen_by old (c ∷ cs) (r ∷ rs) new run = (run.0, seen_step old c r run.0 run.1, run_seen_by run.0 cs rs new run.2)
  run_seen_by old _ _ new run = absurd run

  -- each map that held the same, and shows what f returns, gives the same replies and then holds the same
  pub each_agrees : (old : Pairs V) (cs : List (SecondaryCommand K V)) (rs : List (SecondaryReply V R)) (new : Pairs V)
      → Run (SideStep given) old cs rs new → AllByRecursion HadMemory rs → EachAgrees (seen_by data_of f) old cs rs new
  each_agrees old cs rs new run had others left there had_there = grind (arith, runs_agree)
