-- How the program ends: its status, and all that it prints.
use Rattle.std.specs.Prelude.{◌≡◌, ◌⊎◌, ℕ, List, [], ◌∷◌, ◌++◌, if◌then◌else◌, Option, Some, None}
use Rattle.slotmap_script.specs.CommandText.{says}
use Rattle.slotmap_script.specs.StopText.{stop_text}
use Rattle.slotmap_script.specs.ScriptText.{lines_of, IsFirstBad}
use Rattle.slotmap_script.specs.Kinds.{basic_kind, dense_kind, hop_kind, AreRead, PrintsAll, StopsRun}
use Rattle.slotmap_script.specs.declared.stop.Stop.{Stop}
use Rattle.slotmap_script.specs.declared.stop.Stop.TheVariants as stop

-- the kinds of map
pub data KindName : Type 0 where
  basic : KindName
  dense : KindName
  hop : KindName

-- the kind that the program's words name: there is one word
abbrev pub kind_named : List (List ℕ) → Option KindName
kind_named (word ∷ []) =
    if says word "basic" then Some basic else (
    if says word "dense" then Some dense else (
    if says word "hop" then Some hop else None))
kind_named _ = None

-- a script prints this text on a new map of this kind
abbrev pub PrintsScript : KindName → List ℕ → List ℕ → Type 0
PrintsScript basic script text = PrintsAll basic_kind script text
PrintsScript dense script text = PrintsAll dense_kind script text
PrintsScript hop script text = PrintsAll hop_kind script text

-- the first line of a script that is bad for this kind of map
abbrev pub IsBadLine : KindName → List ℕ → ℕ → Type 0
IsBadLine basic script number = IsFirstBad basic_kind.command_of (lines_of script) number
IsBadLine dense script number = IsFirstBad dense_kind.command_of (lines_of script) number
IsBadLine hop script number = IsFirstBad hop_kind.command_of (lines_of script) number

-- why a run on a map of this kind stops
abbrev pub StopsOn : KindName → Option (List ℕ) → (List ℕ → Type 0) → Stop → Type 0
StopsOn basic known Printed why = StopsRun basic_kind known Printed why
StopsOn dense known Printed why = StopsRun dense_kind known Printed why
StopsOn hop known Printed why = StopsRun hop_kind known Printed why

module _ (words : List (List ℕ)) (known : Option (List ℕ)) where
  -- The program's words name a kind of map, and the script that is read prints this text on it
  abbrev pub Runs : List ℕ → Type 0
  Runs text = (kind : KindName) × (kind_named words ≡ Some kind) × ((script : List ℕ) × AreRead known script × PrintsScript kind script text)

  -- the words name no kind of map, or the script that is read has a bad line; this text says so
  abbrev pub Refuses : List ℕ → Type 0
  Refuses text = ((kind_named words ≡ None) × (text ≡ stop_text stop.Usage))
      ⊎ ((kind : KindName) × (kind_named words ≡ Some kind) × ((script : List ℕ) × (number : ℕ) × AreRead known script
      × IsBadLine kind script number × (text ≡ stop_text (stop.BadLine number))))

  -- why the program stops before the end, and what it printed
  abbrev pub Stops : (List ℕ → Type 0) → Stop → Type 0
  Stops Printed stop.Usage = (kind_named words ≡ None) × Printed []
  Stops Printed why = (kind : KindName) × (kind_named words ≡ Some kind) × StopsOn kind known Printed why

  -- the text ends with the line that there was no memory for the script, or that it couldn't be read; this is what was printed before
  abbrev pub StopsShort : List ℕ → Type 0
  StopsShort text = Stops (λ before. text ≡ before ++ stop_text stop.NoScript) stop.NoScript

  -- a text that is printed where no write fails: of a run, of a refusal, or of a run that stops before the end
  abbrev pub IsPrinted : List ℕ → Type 0
  IsPrinted text = Runs text ⊎ (Refuses text ⊎ StopsShort text)
