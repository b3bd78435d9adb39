-- What follows from what a call says of its success, or of a write that failed.
use Rattle.std.proofs.Common.{◌≡◌, Result, Ok, Err, IfErr, OnOk}
use Rattle.slotmap_script.specs.declared.stop.Stop.{Stop}
use Rattle.slotmap_script.specs.declared.stop.Stop.TheVariants.{Output}

pub on_success : {T X : Type 0} (P Q : Type 0) → (P → Q) → (r : Result T X) → OnOk r P → OnOk r Q
on_success P Q so (Ok v) is = so is
on_success P Q so (Err e) is = tt

pub on_error : {T X : Type 0} (P Q : X → Type 0) → ((e : X) → P e → Q e) → (r : Result T X) → IfErr r P → IfErr r Q
on_error P Q so (Ok v) is = tt
on_error P Q so (Err e) is = so e is

-- a write failed, and this was written
pub broken : {T : Type 0} (P Q : Type 0) → (P → Q) → (r : Result T Stop) → IfErr r (λ why. (why ≡ Output) × P) → IfErr r (λ why. (why ≡ Output) × Q)
broken P Q so (Ok v) is = tt
broken P Q so (Err e) is = (is.0, so is.1)
