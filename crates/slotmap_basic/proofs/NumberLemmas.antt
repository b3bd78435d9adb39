-- The number that a slot has beside its version.
use Rattle.std.proofs.Common.{◌≡◌, ◌%◌, ◌==◌, ◌∷◌, ◌++◌, ℕ, zero, suc, cond, List, [], length, set, slice_get, Some, IsSome, refl, ap, arith}
use Rattle.slotmap_slots.specs.Numbers.{empty_use, use_of, number_of}
use Rattle.slotmap_basic.specs.Columns.{uses_of}
use Rattle.slotmap_slots.specs.Slot.{FitsEmpty, next_of}
use Rattle.slotmap_slots.specs.declared.layout.Use.{Use}
use Rattle.slotmap_slots.specs.declared.layout.Use.TheVariants.{InUse, Free, Detached, Retired}

pub free_is : (v n : ℕ) → IsSome (next_of (use_of v n)) → next_of (use_of v n) ≡ Some n
free_is v n some = grind arith

pub usage-in_use : (v n : ℕ) → v % 2 ≡ 1 → use_of v n ≡ InUse
usage-in_use v n odd = ap (λ r. cond (r == 1) InUse (empty_use v n)) odd

pub usage-empty : (v : ℕ) (l : Use) → FitsEmpty v l → use_of v (number_of l) ≡ l
usage-empty v InUse fits = absurd (fits.unused refl)
usage-empty v (Free next) fits = grind arith
usage-empty v Detached fits = grind arith
usage-empty v Retired fits = ap (λ w. use_of w 1) (fits.version_zero refl)

-- the same for all slots
pub uses-length : (vs ns : List ℕ) → length ns ≡ length vs → length (uses_of vs ns) ≡ length vs
uses-length [] ns same = refl
uses-length (v ∷ vs) (n ∷ ns) same = omega (arith, uses-length vs ns (omega arith))
uses-length (v ∷ vs) [] same = absurd (omega arith)

pub uses-at : (vs ns : List ℕ) (i v n : ℕ) → slice_get vs i ≡ Some v → slice_get ns i ≡ Some n → slice_get (uses_of vs ns) i ≡ Some (use_of v n)
uses-at (w ∷ vs) (m ∷ ns) zero v n at_v at_n = grind arith
uses-at (w ∷ vs) (m ∷ ns) (suc i) v n at_v at_n = uses-at vs ns i v n at_v at_n
uses-at vs ns i v n at_v at_n = absurd (cc)

pub uses-set : (vs ns : List ℕ) (i v n : ℕ) → uses_of (set vs i v) (set ns i n) ≡ set (uses_of vs ns) i (use_of v n)
uses-set [] ns i v n = refl
uses-set (w ∷ vs) [] zero v n = refl
uses-set (w ∷ vs) [] (suc i) v n = refl
uses-set (w ∷ vs) (m ∷ ns) zero v n = refl
uses-set (w ∷ vs) (m ∷ ns) (suc i) v n = ap (λ ls. use_of w m ∷ ls) (uses-set vs ns i v n)

-- a version becomes odd, and the number stays
pub uses-put : (vs ns : List ℕ) (i v : ℕ) → v % 2 ≡ 1 → uses_of (set vs i v) ns ≡ set (uses_of vs ns) i InUse
uses-put [] ns i v odd = refl
uses-put (w ∷ vs) [] zero v odd = refl
uses-put (w ∷ vs) [] (suc i) v odd = refl
uses-put (w ∷ vs) (m ∷ ns) zero v odd = ap (λ l. l ∷ uses_of vs ns) (usage-in_use v m odd)
uses-put (w ∷ vs) (m ∷ ns) (suc i) v odd = ap (λ ls. use_of w m ∷ ls) (uses-put vs ns i v odd)

pub uses-push : (vs ns : List ℕ) (v n : ℕ) → length ns ≡ length vs → uses_of (vs ++ v ∷ []) (ns ++ n ∷ []) ≡ uses_of vs ns ++ use_of v n ∷ []
uses-push [] [] v n same = refl
uses-push (w ∷ vs) (m ∷ ns) v n same = ap (λ ls. use_of w m ∷ ls) (uses-push vs ns v n (omega arith))
uses-push vs ns v n same = absurd (omega arith)
