-- The last line of a script that ends early, and its status.
use Rattle.std.specs.Prelude.{◌≡◌, ◌⊎◌, ℕ, List, [], ◌++◌, codes, Result, Ok, Err}
use Rattle.std.specs.Fmt.{decimal}
use Rattle.slotmap_script.specs.ReplyText.{line}
use Rattle.slotmap_script.specs.declared.stop.Stop.{Stop}
use Rattle.slotmap_script.specs.declared.stop.Stop.TheVariants as stop

-- the line that says why a script ends early; none after a write that failed
abbrev pub stop_text : Stop → List ℕ
stop_text stop.Usage = line (codes "usage: slotrun basic|dense|hop")
stop_text (stop.BadLine number) = line (codes "bad line " ++ decimal number)
stop_text stop.NoScript = line (codes "no script")
stop_text stop.Output = []

-- a beginning of this text is printed
abbrev pub IsBegun : List ℕ → (List ℕ → Type 0) → Type 0
IsBegun text Printed = (part rest : List ℕ) × (text ≡ part ++ rest) × Printed part

-- the text is printed, and the status is as wanted; or a write failed, the status is 3, and a beginning of the text is printed
abbrev pub Tells : List ℕ → ℕ → (List ℕ → Type 0) → ℕ → Type 0
Tells text wanted Printed status = ((status ≡ wanted) × Printed text) ⊎ ((status ≡ 3) × IsBegun text Printed)

-- What a script that ended so prints last, and its status. Where memory for the number of a bad line runs out, that is as if it had run out before
abbrev pub Finishes : {T : Type 0} → Result T Stop → (List ℕ → Type 0) → ℕ → Type 0
Finishes (Ok _) Printed status = Tells [] 0 Printed status
Finishes (Err stop.Usage) Printed status = Tells (stop_text stop.Usage) 2 Printed status
Finishes (Err stop.NoScript) Printed status = Tells (stop_text stop.NoScript) 3 Printed status
Finishes (Err (stop.BadLine number)) Printed status = Tells (stop_text (stop.BadLine number)) 2 Printed status ⊎ Tells (stop_text stop.NoScript) 3 Printed status
Finishes (Err stop.Output) Printed status = (status ≡ 3) × Printed []
