-- Calls that fail or find nothing, and what holds where a call succeeds.
use Rattle.std.proofs.Common.{◌≡◌, ℕ, ◌≤◌, true, Option, Some, None, Bor, option_copied, Result, Ok, Err, IsOk, OnOk, IsErr, refl, arith}
use Rattle.slotmap.specs.Words.{Content, IsContent, MakesRoom}

-- a result isn't both
pub not_both : {A E : Type 0} (r : Result A E) → IsOk r → IsErr r → ⊥
not_both (Ok x) ok err = cc
not_both (Err e) ok err = cc

-- what holds where a call succeeds
pub on_ok : {A E P : Type 0} (r : Result A E) → OnOk r P → IsOk r → P
on_ok (Ok x) holds ok = holds
on_ok (Err e) holds ok = absurd (cc)

-- a call that reserves room fails, and changes nothing
pub no_room_made : {V : Type 0} (c : Content V) (n : ℕ) (ok : Type 0) → IsContent true c → (ok → ⊥) → (n ≤ c.room → ok) → MakesRoom true c n ok c
no_room_made c n ok well never had = grind arith

-- a look-up that copies nothing found nothing
pub nothing_copied : {A : Type 0} (r : Option (Bor A)) → option_copied r ≡ None → r ≡ None
nothing_copied None is = refl
nothing_copied (Some x) is = absurd (cc)
