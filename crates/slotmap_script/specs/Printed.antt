-- What the end of a stretch of commands prints, and what it leaves.
use Rattle.std.specs.Prelude.{◌≡◌, ◌⊎◌, ⊤, ℤ, ℕ, List, [], ◌∷◌, ◌++◌, codes}
use Rattle.slotmap_core.specs.Words.{Key}
use Rattle.slotmap_core.specs.declared.errors.SlotsError.{SlotsError}
use Rattle.slotmap_core.specs.declared.commands.Reply.{Reply}
use Rattle.slotmap_core.specs.declared.errors.OutOfMemory.{OutOfMemory}
use Rattle.slotmap_core.specs.declared.serial.SlotRecord.{SlotRecord}
use Rattle.slotmap_script.specs.ReplyText.{line, IsReplyText}
use Rattle.slotmap_script.specs.StopText.{IsBegun}
use Rattle.slotmap_script.specs.ListText.{slots_text, refusal_text}
use Rattle.slotmap_script.specs.ScriptText.{Ending, prints_slots, loads, ends_script}
use Rattle.slotmap_script.specs.declared.list.LoadError.{LoadError}
use Rattle.slotmap_script.specs.declared.list.LoadError.TheVariants as load
use Rattle.slotmap_script.specs.declared.stop.Stop.{Stop}
use Rattle.slotmap_script.specs.declared.stop.Stop.TheVariants as stop

-- what a kind of map does: the lists of slots that a map may be written as, the map that a list may be read as, and why a list isn't read
pub record SlotLists (M : Type 0) : Type 1 where
  pub writes : M → List (SlotRecord ℤ) → Type 0
  pub reads : List (SlotRecord ℤ) → M → Type 0
  pub refuses : List (SlotRecord ℤ) → SlotsError → Type 0

module _ {M : Type 0} (lists : SlotLists M) where
  -- the list of slots that the map is written as, or that there is no memory for it
  abbrev pub PrintsSlots : M → List ℕ → Type 0
  PrintsSlots map text = ((slots : List (SlotRecord ℤ)) × lists.writes map slots × (text ≡ slots_text slots)) ⊎ (text ≡ line (codes "memory"))

  -- a reason why no map is read
  abbrev pub IsReason : LoadError → Type 0
  IsReason (load.Json error) = ⊤
  IsReason (load.Slots error) = (slots : List (SlotRecord ℤ)) × lists.refuses slots error

  -- a list is read as the new map; or the reason is printed, and the old map stays
  abbrev pub Loads : M → List ℕ → M → Type 0
  Loads old text new =
      ((slots : List (SlotRecord ℤ)) × lists.reads slots new × (text ≡ line (codes "done")))
      ⊎ ((new ≡ old) × ((reason : LoadError) × IsReason reason × (text ≡ refusal_text reason)))

  -- what the end of a stretch prints, and the map that it leaves
  abbrev pub PrintsEnd : Ending → M → List ℕ → M → Type 0
  PrintsEnd prints_slots old text new = (new ≡ old) × PrintsSlots old text
  PrintsEnd (loads json) old text new = Loads old text new
  PrintsEnd ends_script old text new = (new ≡ old) × (text ≡ [])

  -- a write failed at the end of a stretch: a beginning of what that end prints
  abbrev pub BreaksEnd : Ending → M → (List ℕ → Type 0) → Stop → Type 0
  BreaksEnd end old Printed why = (why ≡ stop.Output) × ((text : List ℕ) × (new : M) × PrintsEnd end old text new × IsBegun text Printed)

-- the texts of the replies, in order
abbrev pub PrintsReplies : List (Reply Key ℤ ℤ OutOfMemory) → List ℕ → Type 0
PrintsReplies [] text = text ≡ []
PrintsReplies (reply ∷ replies) text = (first rest : List ℕ) × IsReplyText reply first × PrintsReplies replies rest × (text ≡ first ++ rest)

-- the replies to these commands are this text
abbrev pub RepliesBy : {C M : Type 0} → (M → List C → List (Reply Key ℤ ℤ OutOfMemory) → M → Type 0) → M → List C → List ℕ → M → Type 0
RepliesBy Answers old commands text new = (replies : List (Reply Key ℤ ℤ OutOfMemory)) × Answers old commands replies new × PrintsReplies replies text

module _ {C M : Type 0} (Answers : M → List C → List (Reply Key ℤ ℤ OutOfMemory) → M → Type 0) (lists : SlotLists M) where
  -- a stretch prints the replies to its commands, and then its end
  pub record PrintsStretch (stretch : List C × Ending) (old : M) (text : List ℕ) (new : M) : Type 0 where
    pub replies : List (Reply Key ℤ ℤ OutOfMemory)
    pub mid : M
    pub answers : Answers old stretch.0 replies mid
    pub told : List ℕ
    pub tells : PrintsReplies replies told
    pub last : List ℕ
    pub ends : PrintsEnd lists stretch.1 mid last new
    pub in_order : text ≡ told ++ last

  -- the stretches print this text, one after another, each from the map that the one before it left
  abbrev pub Prints : List (List C × Ending) → M → List ℕ → M → Type 0
  Prints [] old text new = (new ≡ old) × (text ≡ [])
  Prints (stretch ∷ stretches) old text new =
      (mid : M) × (first rest : List ℕ) × PrintsStretch stretch old first mid × Prints stretches mid rest new × (text ≡ first ++ rest)

  -- the first of these stretches print this text
  abbrev pub PrintsFirst : List (List C × Ending) → M → List ℕ → Type 0
  PrintsFirst stretches old text =
      (first rest : List (List C × Ending)) × (last : M) × (stretches ≡ first ++ rest) × Prints first old text last

  -- why a stretch stops, and what it printed: nothing where there is no memory for its replies, and a beginning where a write failed
  abbrev pub StopsStretch : List C × Ending → M → (List ℕ → Type 0) → Stop → Type 0
  StopsStretch stretch old Printed stop.NoScript = Printed []
  StopsStretch stretch old Printed stop.Output = (text : List ℕ) × (new : M) × PrintsStretch stretch old text new × IsBegun text Printed
  StopsStretch stretch old Printed _ = ⊥

  -- why the run of these stretches stops, and what it printed: where a write failed, a beginning of what the first of them print
  abbrev pub StopsStretches : List (List C × Ending) → M → (List ℕ → Type 0) → Stop → Type 0
  StopsStretches stretches old Printed stop.NoScript = (text : List ℕ) × PrintsFirst stretches old text × Printed text
  StopsStretches stretches old Printed stop.Output = (text : List ℕ) × PrintsFirst stretches old text × IsBegun text Printed
  StopsStretches stretches old Printed _ = ⊥
