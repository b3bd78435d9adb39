-- A list of slots, printed in pieces.
use Rattle.std.proofs.Common.{◌≡◌, ◌+◌, ◌<◌, ◌≤◌, ◌⊎◌, ℤ, ℕ, zero, suc, List, [], ◌∷◌, ◌++◌}
use Rattle.std.proofs.Common.{Option, Some, length, take, map, get_or, append_assoc, ap, sym, ◌∙◌, refl, arith, inl, inr}
use Rattle.std.specs.Prelude.{codes}
use Rattle.std.specs.List.{join_with_byte}
use Rattle.std.specs.Io.KnownBytes.{Appends}
use Rattle.std.proofs.lemmas.List.{take-map, take_all}
use Rattle.slotmap_core.specs.declared.serial.SlotRecord.{SlotRecord}
use Rattle.slotmap_script.specs.{ListText.slot_text, ListText.slots_text, StopText.IsBegun}
use Rattle.slotmap_script.proofs.Appending.{Appends-trans, join_first, join_more}
use Rattle.slotmap_script.proofs.Lines.{append_nil}

-- the first of some texts, with a byte between each two, begin all of them
join_begins : (c : ℕ) (xs : List (List ℕ)) (i : ℕ) → (rest : List ℕ) × (join_with_byte c xs ≡ join_with_byte c (take i xs) ++ rest)
join_begins c xs zero = (join_with_byte c xs, refl)
join_begins c [] (suc i) = ([], refl)
join_begins c (x ∷ []) (suc zero) = ([], sym (append_nil x))
join_begins c (x ∷ []) (suc (suc i)) = ([], sym (append_nil x))
join_begins c (x ∷ y ∷ zs) (suc zero) = (c ∷ join_with_byte c (y ∷ zs), refl)
join_begins c (x ∷ y ∷ zs) (suc (suc i)) =
    let (rest, begins) = join_begins c (y ∷ zs) (suc i) in
    (rest, ap (λ t. x ++ c ∷ t) begins ∙ sym (append_assoc x (c ∷ join_with_byte c (take (suc i) (y ∷ zs))) rest))

-- what is written of the first slots, without the end of the line
abbrev pub begun_text : List (SlotRecord ℤ) → ℕ → List ℕ
begun_text slots i = codes "[" ++ join_with_byte 44 (map slot_text (take i slots))

-- the text of the first slots begins that of all
slots_begin : (slots : List (SlotRecord ℤ)) (i : ℕ) → (rest : List ℕ) × (slots_text slots ≡ begun_text slots i ++ rest)
slots_begin slots i =
    let (rest, begins) = join_begins 44 (map slot_text slots) i in
    let first = join_with_byte 44 (map slot_text (take i slots)) in
    let parts : join_with_byte 44 (map slot_text slots) ≡ first ++ rest = rw (take-map slot_text i slots) at begins in
    (rest ++ (93 ∷ 10 ∷ []), ends first rest parts)
  where
    ends : (first rest : List ℕ) → join_with_byte 44 (map slot_text slots) ≡ first ++ rest → slots_text slots ≡ (91 ∷ first) ++ (rest ++ (93 ∷ 10 ∷ []))
    ends first rest parts = ap (λ t. 91 ∷ ((t ++ (93 ∷ [])) ++ (10 ∷ []))) parts
        ∙ ap (λ t. 91 ∷ t) (append_assoc (first ++ rest) (93 ∷ []) (10 ∷ []) ∙ append_assoc first rest (93 ∷ 10 ∷ []))

zero_or_more : (i : ℕ) → (i ≤ 0) ⊎ (0 < i)
zero_or_more zero = inl (omega arith)
zero_or_more (suc i) = inr (omega arith)

module _ (slots : List (SlotRecord ℤ)) (i : ℕ) (part piece : List ℕ) (before : part ++ piece ≡ begun_text slots i) where
  module _ (d : SlotRecord ℤ) (within : i < length slots) (longer : List ℕ) where
    -- one slot more
    pub slot_more : (i ≤ 0 → longer ≡ piece ++ slot_text (get_or slots i d)) → (0 < i → longer ≡ piece ++ (44 ∷ slot_text (get_or slots i d)))
        → part ++ longer ≡ begun_text slots (i + 1)
    slot_more first next = elim (zero_or_more i) [
      | inl none ↦
          rw (first none) (sym (append_assoc part piece (slot_text (get_or slots i d)))
          ∙ join_first 44 slot_text slots i d within (codes "[") (Some []) (Some (part ++ piece)) before none (Some ((part ++ piece) ++ slot_text (get_or slots i d))) refl)
      | inr some ↦
          let text = slot_text (get_or slots i d) in
          rw (next some) (sym (append_assoc part piece (44 ∷ text)) ∙ sym (append_assoc (part ++ piece) (44 ∷ []) text)
          ∙ join_more 44 slot_text slots i d within (codes "[") (Some []) (Some (part ++ piece)) before some (Some ((part ++ piece) ++ (44 ∷ [])))
          (Some (((part ++ piece) ++ (44 ∷ [])) ++ text)) refl refl)
    ]

  -- all slots are in the piece, and the end of the line
  pub list_whole : length slots ≤ i → part ++ (piece ++ (93 ∷ 10 ∷ [])) ≡ slots_text slots
  list_whole all = sym (append_assoc part piece (93 ∷ 10 ∷ [])) ∙ ap (λ t. t ++ (93 ∷ 10 ∷ [])) before
      ∙ ap (λ taken. 91 ∷ (join_with_byte 44 (map slot_text taken) ++ (93 ∷ 10 ∷ []))) (take_all i slots all)
      ∙ ap (λ t. 91 ∷ t) (sym (append_assoc (join_with_byte 44 (map slot_text slots)) (93 ∷ []) (10 ∷ [])))

  -- nothing more is written
  pub list_begun : (Printed : List ℕ → Type 0) → Printed part → IsBegun (slots_text slots) Printed
  list_begun Printed printed =
      let (rest, begins) = slots_begin slots i in
      (part, piece ++ rest, begins ∙ ap (λ t. t ++ rest) (sym before) ∙ append_assoc part piece rest, printed)

  -- a beginning of the piece is written
  pub list_broken : (old now new : Option (List ℕ)) → Appends old now part → IsBegun piece (Appends now new) → IsBegun (slots_text slots) (Appends old new)
  list_broken old now new written (gone, left, parts, more) =
      let (rest, begins) = slots_begin slots i in (
        part ++ gone,
        left ++ rest,
        begins ∙ ap (λ t. t ++ rest) (sym before ∙ ap (λ t. part ++ t) parts ∙ sym (append_assoc part gone left)) ∙ append_assoc (part ++ gone) left rest,
        Appends-trans old now new part gone written more,
      )
