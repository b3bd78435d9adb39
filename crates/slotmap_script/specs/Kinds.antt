-- The kinds of map, and what a script prints on each.
use Rattle.std.specs.Prelude.{◌≡◌, ◌⊎◌, ℤ, ℕ, List, [], true, false, Option, IfSome}
use Rattle.slotmap_core.specs.Words.{Key, Content, IsNew, Step, DetachStep, Writes, ReadsAs, Accepts, RefusesStart, list_limit}
use Rattle.slotmap_core.specs.declared.commands.Command.{Command}
use Rattle.slotmap_core.specs.declared.commands.DetachCommand.{DetachCommand}
use Rattle.slotmap_core.specs.declared.commands.Reply.{Reply}
use Rattle.slotmap_core.specs.declared.errors.OutOfMemory.{OutOfMemory}
use Rattle.slotmap_dense.specs.Dense.{Dense}
use Rattle.slotmap_hop.specs.HopContent.{HopContent}
use Rattle.slotmap_script.specs.Answered.{Answers}
use Rattle.slotmap_script.specs.CommandText.{plain_of, detachable_of}
use Rattle.slotmap_script.specs.ScriptText.{lines_of, Said, SaidBy, IsFirstBad, stretches_from}
use Rattle.slotmap_script.specs.Printed.{SlotLists, Prints, PrintsFirst}
use Rattle.slotmap_script.specs.StopText.{IsBegun}
use Rattle.slotmap_script.specs.declared.stop.Stop.{Stop}
use Rattle.slotmap_script.specs.declared.stop.Stop.TheVariants as stop

-- what a kind of map has: the commands of lines, the replies to them, its lists of slots, and which map a script begins with
pub record MapKind (C M : Type 0) : Type 1 where
  pub command_of : List (List ℕ) → Option C
  pub replies_to : M → List C → List (Reply Key ℤ ℤ OutOfMemory) → M → Type 0
  pub lists : SlotLists M
  pub is_new : M → Type 0

-- the kind of map that has these
abbrev pub kind_of : {C M : Type 0} → (List (List ℕ) → Option C) → (M → List C → List (Reply Key ℤ ℤ OutOfMemory) → M → Type 0)
    → SlotLists M → (M → Type 0) → MapKind C M
kind_of command_of replies_to lists is_new = record { command_of = command_of; replies_to = replies_to; lists = lists; is_new = is_new }

-- The lists of the three kinds: each map is written and read as its content. The lists that are read are those of the maps' own calls
abbrev pub basic_lists : SlotLists (Content ℤ)
basic_lists = record {
  writes = λ map slots. Writes map slots;
  reads = λ slots made. Accepts slots list_limit × ReadsAs true slots made;
  refuses = λ slots error. RefusesStart slots list_limit error;
}

abbrev pub dense_lists : SlotLists (Dense ℤ)
dense_lists = record {
  writes = λ map slots. Writes map.content slots;
  reads = λ slots made. Accepts slots list_limit × ReadsAs false slots made.content;
  refuses = λ slots error. RefusesStart slots list_limit error;
}

abbrev pub hop_lists : SlotLists (HopContent ℤ)
hop_lists = record {
  writes = λ map slots. Writes map.content slots;
  reads = λ slots made. Accepts slots list_limit × ReadsAs true slots made.content;
  refuses = λ slots error. RefusesStart slots list_limit error;
}

-- The three kinds. Keys of a `HopSlotMap` can't be detached, and a `DenseSlotMap` asks for memory where it uses a slot again
abbrev pub basic_kind : MapKind (DetachCommand Key ℤ) (Content ℤ)
basic_kind = record {
  command_of = detachable_of;
  replies_to = λ old commands replies new. Answers DetachStep true old commands replies new;
  lists = basic_lists;
  is_new = λ map. IsNew map;
}

abbrev pub dense_kind : MapKind (DetachCommand Key ℤ) (Dense ℤ)
dense_kind = record {
  command_of = detachable_of;
  replies_to = λ old commands replies new. Answers DetachStep false old.content commands replies new.content;
  lists = dense_lists;
  is_new = λ map. IsNew map.content;
}

abbrev pub hop_kind : MapKind (Command Key ℤ) (HopContent ℤ)
hop_kind = record {
  command_of = plain_of;
  replies_to = λ old commands replies new. Answers Step true old.content commands replies new.content;
  lists = hop_lists;
  is_new = λ map. IsNew map.content;
}

-- the bytes that were read are these, where it is known which there are
abbrev pub AreRead : Option (List ℕ) → List ℕ → Type 0
AreRead known script = IfSome known (λ bytes. script ≡ bytes)

module _ {C M : Type 0} (kind : MapKind C M) where
  -- all lines are those of a script, and run on a new map they print this text
  abbrev pub PrintsAll : List ℕ → List ℕ → Type 0
  PrintsAll script text = (said : List (Said C)) × SaidBy kind.command_of (lines_of script) said
      × ((new last : M) × kind.is_new new × Prints kind.replies_to kind.lists (stretches_from [] said) new text last)

  -- all lines are those of a script, and run on a new map the first stretches print this text
  abbrev pub PrintsSome : List ℕ → List ℕ → Type 0
  PrintsSome script text = (said : List (Said C)) × SaidBy kind.command_of (lines_of script) said
      × ((new : M) × kind.is_new new × PrintsFirst kind.replies_to kind.lists (stretches_from [] said) new text)

  -- Why a run stops, and what it printed: nothing at a bad line, nothing or the first stretches where memory runs out or the script can't be
  -- read, and a beginning of the first stretches where a write failed
  abbrev pub StopsRun : Option (List ℕ) → (List ℕ → Type 0) → Stop → Type 0
  StopsRun known Printed (stop.BadLine number) =
      (script : List ℕ) × AreRead known script × IsFirstBad kind.command_of (lines_of script) number × Printed []
  StopsRun known Printed stop.NoScript =
      (text : List ℕ) × ((text ≡ []) ⊎ ((script : List ℕ) × AreRead known script × PrintsSome script text)) × Printed text
  StopsRun known Printed stop.Output =
      (text : List ℕ) × ((script : List ℕ) × AreRead known script × PrintsSome script text) × IsBegun text Printed
  StopsRun known Printed stop.Usage = ⊥
