-- What the lines of a script say.
use Rattle.std.specs.Prelude.{◌≡◌, ℕ, ◌+◌, List, [], ◌∷◌, ◌++◌, length, drop, map, codes, if◌then◌else◌, nat_eq, ◌==◌, Option, Some, None, option_map, ⊤}
use Rattle.std.specs.List.{slice_split, onto_first, starts_with}
use Rattle.std.specs.Str.{is_utf8}
use Rattle.slotmap_script.specs.CommandText.{says}
use Rattle.slotmap_script.specs.declared.script.End.{End}
use Rattle.slotmap_script.specs.declared.script.End.TheVariants as end
use Rattle.slotmap_script.specs.declared.script.Line.{Line}
use Rattle.slotmap_script.specs.declared.script.Line.TheVariants as line
use Rattle.slotmap_script.specs.declared.script.Stretch.{Stretch}
use Rattle.slotmap_script.specs.declared.stop.Stop.{Stop}
use Rattle.slotmap_script.specs.declared.stop.Stop.TheVariants as stop

-- the lines of a text: each line feed ends one, and what follows the last line feed is one unless it is empty
abbrev pub lines_of : List ℕ → List (List ℕ)
lines_of [] = []
lines_of (byte ∷ rest) = if byte == 10 then [] ∷ lines_of rest else onto_first byte (lines_of rest)

-- the words of a line: what stands before, between and after its spaces
abbrev pub words_of : List ℕ → List (List ℕ)
words_of text = slice_split (λ byte. byte == 32) text

-- what ends a stretch of commands: a list of slots is printed, a map is read from a text, or the script ends
pub data Ending : Type 0 where
  prints_slots : Ending
  loads : List ℕ → Ending
  ends_script : Ending

-- what a line says: a command, or the end of a stretch of commands
pub data Said (C : Type 0) : Type 0 where
  command : C → Said C
  ending : Ending → Said C

module _ {C : Type 0} where
  -- a map is read from this text, which isn't empty
  abbrev pub said_load : List ℕ → Option (Said C)
  said_load [] = None
  said_load (byte ∷ rest) = Some (ending (loads (byte ∷ rest)))

  -- what a line of UTF-8 says
  abbrev pub said_by_text : (List (List ℕ) → Option C) → List ℕ → Option (Said C)
  said_by_text command_of text =
      if starts_with nat_eq text (codes "load ") then said_load (drop 5 text) else (
      if says text "slots" then Some (ending prints_slots) else option_map command (command_of (words_of text)))

  -- what a line says; it says nothing if it is bad
  abbrev pub said_by : (List (List ℕ) → Option C) → List ℕ → Option (Said C)
  said_by command_of text = if is_utf8 text then said_by_text command_of text else None

  -- these lines say all that
  abbrev pub SaidBy : (List (List ℕ) → Option C) → List (List ℕ) → List (Said C) → Type 0
  SaidBy command_of texts said = map (said_by command_of) texts ≡ map Some said

  -- the first bad line has this number; lines count from 1
  pub record IsFirstBad (command_of : List (List ℕ) → Option C) (texts : List (List ℕ)) (number : ℕ) : Type 0 where
    pub before : List (List ℕ)
    pub bad : List ℕ
    pub after : List (List ℕ)
    pub parts : texts ≡ before ++ bad ∷ after
    pub counted : number ≡ length before + 1
    pub said_before : (said : List (Said C)) × SaidBy command_of before said
    pub says_nothing : said_by command_of bad ≡ None

  -- The stretches of a script: commands, and what ends them. These commands stand before what is said
  abbrev pub stretches_from : List C → List (Said C) → List (List C × Ending)
  stretches_from begun [] = (begun, ends_script) ∷ []
  stretches_from begun (command c ∷ said) = stretches_from (begun ++ c ∷ []) said
  stretches_from begun (ending e ∷ said) = (begun, e) ∷ stretches_from [] said

  -- why a script isn't parsed: its first bad line, or no memory
  abbrev pub StopsParse : (List (List ℕ) → Option C) → List (List ℕ) → Stop → Type 0
  StopsParse command_of texts (stop.BadLine number) = IsFirstBad command_of texts number
  StopsParse command_of texts stop.NoScript = ⊤
  StopsParse command_of texts stop.Usage = ⊥
  StopsParse command_of texts stop.Output = ⊥

-- the end of a stretch, as clauses see it
abbrev pub ending_of : End → Ending
ending_of end.Slots = prints_slots
ending_of (end.Load text) = loads text.now
ending_of end.Script = ends_script

-- a line, as clauses see it
abbrev pub said_of : {C : Type 0} → Line C → Said C
said_of (line.Command c) = command c
said_of (line.End e) = ending (ending_of e)

-- a stretch, as clauses see it
abbrev pub stretch_of : {C : Type 0} → Stretch C → List C × Ending
stretch_of stretch = (stretch.commands.items, ending_of stretch.end)
