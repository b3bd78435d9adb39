-- One vector of rows as a list of slots.
use Rattle.std.proofs.Common.{◌≡◌, ◌%◌, ◌==◌, ◌∷◌, Option, ℕ, zero, suc, cond, Bool, true, false, List, [], set, get_or, Some, None, IsSome, refl, sym, ap, ◌∙◌}
use Rattle.slotmap_core.proofs.Common.{map-set, IsCloneOf, zip_self}
use Rattle.slotmap_slots.specs.Slot.{Slot, payload_at, with_payload, IsSlotClone, AreSlotClones}
use Rattle.slotmap_dense.specs.Rows.{slot_of_row, slots_of_rows, payload_of}
use Rattle.slotmap_dense.specs.declared.rows.Row.{Row}

-- a row with a payload has an odd version
odd_row : (b : Bool) (n : ℕ) → IsSome (cond b (Some n) None) → b ≡ true
odd_row true n some = refl
odd_row false n some = absurd (cc)

in_use : (v n : ℕ) → IsSome (payload_of v n) → (v % 2 == 1) ≡ true
in_use v n some = odd_row (v % 2 == 1) n some

-- the value that a read of a row with a payload returns
pub row-payload : (rows : List Row) (i : ℕ) (r : Row) → r ≡ get_or rows i r → IsSome (payload_at (slots_of_rows rows) i) → payload_at (slots_of_rows rows) i ≡ Some r.number
row-payload [] i r read some = absurd (cc)
row-payload (q ∷ rows) zero r read some = ap (λ b. cond b (Some q.number) None) (in_use q.version q.number some) ∙ ap (λ (x : Row). Some x.number) (sym read)
row-payload (q ∷ rows) (suc i) r read some = row-payload rows i r read some

pub row-with_payload : (rows : List Row) (i : ℕ) (r : Row) (p : ℕ) → r ≡ get_or rows i r → IsSome (payload_at (slots_of_rows rows) i)
    → slots_of_rows (set rows i (record r { number = p })) ≡ with_payload (slots_of_rows rows) i p
row-with_payload [] i r p read some = refl
row-with_payload (q ∷ rows) zero r p read some = rw (read, in_use q.version q.number some) refl
row-with_payload (q ∷ rows) (suc i) r p read some = ap (λ ss. slot_of_row q ∷ ss) (row-with_payload rows i r p read some)

-- the same slots, where each value is a clone of itself
pub clones-self : {P : Type 0} (is_clone : P → P → Type 0) → ((p : P) → is_clone p p) → (slots : List (Slot P)) → AreSlotClones is_clone slots slots
clones-self {P} is_clone itself slots = zip_self (IsSlotClone is_clone) (λ s. record { version = refl; usage = refl; payload = own s.payload }) slots
  where
    own : (o : Option P) → IsCloneOf is_clone o o
    own None = refl
    own (Some p) = itself p

-- what the tactics need of written rows
pub ruleset slot_list = (map-set)
