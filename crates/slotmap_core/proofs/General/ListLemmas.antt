-- Elements of a list by their index.
-- For the crates of maps.
use Rattle.std.proofs.Common.{◌≡◌, ◌≢◌, ◌+◌, ◌<◌, ◌∷◌, ◌++◌, sym, ap, ◌∙◌, arith, ℕ, zero, suc, option_map, List, [], length, take, drop, slice_get, get_or}
use Rattle.std.proofs.lemmas.Option.{slice_get_within, slice_get_cases, slice_get_read, get_or_from_slice_get}
use Rattle.std.proofs.lemmas.List.Elements.{all_zip_more}
use Rattle.std.proofs.lemmas.Slice.Zip.{AllZip-left, AllZip-right}
use Rattle.slotmap_core.specs.Words.{AllZip, Option, Some, None, IfNone, Result, IsOk, IsErr, refl}
-- as many elements are in both of two lists that are related one by one
pub use Rattle.std.proofs.lemmas.Slice.Zip.{AllZip-long as zip_length}

pub found_within : {X : Type 0} (xs : List X) (i : ℕ) → i < length xs → (x : X) × (slice_get xs i ≡ Some x)
found_within xs i within = grind (arith, slice_get_cases xs i)

-- where a mapped option comes from
pub mapped : {A B : Type 0} (f : A → B) (o : Option A) (b : B) → option_map f o ≡ Some b → (a : A) × (o ≡ Some a) × (f a ≡ b)
mapped f o b is = grind arith

-- the value that a read of a vector returned is the element that is known to be there
pub same_read : {X : Type 0} (xs : List X) (i : ℕ) (read known : X) → read ≡ get_or xs i read → slice_get xs i ≡ Some known → read ≡ known
same_read xs i read known at found = at ∙ get_or_from_slice_get xs i known read found

-- the value that a look-up by `get` read in a vector
pub read_of : {X : Type 0} (seen xs : List X) (i : ℕ) (v : X) → seen ≡ xs → v ≡ get_or seen i v → i < length seen → slice_get xs i ≡ Some v
read_of seen xs i v whole read within = ap (λ xs. slice_get xs i) (sym whole) ∙ slice_get_read seen (length seen) i v refl within read

pub if_none : {A P : Type 0} (o : Option A) → P → IfNone o P
if_none o p = grind arith

pub none_from : {A : Type 0} (o : Option A) → ((x : A) → o ≢ Some x) → o ≡ None
none_from o other = grind arith

pub err_not_ok : {A E : Type 0} (r : Result A E) → IsErr r → IsOk r → ⊥
err_not_ok r err ok = grind arith

-- elements at the same index of two lists that are related one by one
module _ {A B : Type 0} (R : A → B → Type 0) where
  pub zip_right : (xs : List A) (ys : List B) → AllZip R xs ys → (i : ℕ) (x : A) → slice_get xs i ≡ Some x → (y : B) × (slice_get ys i ≡ Some y) × R x y
  zip_right xs ys all i x found = grind (arith, AllZip-left R xs ys all i)

  pub zip_left : (xs : List A) (ys : List B) → AllZip R xs ys → (i : ℕ) (y : B) → slice_get ys i ≡ Some y → (x : A) × (slice_get xs i ≡ Some x) × R x y
  zip_left xs ys all i y found = grind (arith, AllZip-right R xs ys all i)

  -- what is left of the two lists after as many elements
  pub zip_drop : (i : ℕ) (xs : List A) (ys : List B) → AllZip R xs ys → AllZip R (drop i xs) (drop i ys)
  zip_drop zero xs ys all = all
  zip_drop (suc i) [] [] all = tt
  zip_drop (suc i) (x ∷ xs) (y ∷ ys) all = zip_drop i xs ys all.1
  zip_drop (suc i) _ _ all = absurd all

-- each element is related to itself
pub zip_self : {A : Type 0} (R : A → A → Type 0) → ((x : A) → R x x) → (xs : List A) → AllZip R xs xs
zip_self R itself [] = tt
zip_self R itself (x ∷ xs) = (itself x, zip_self R itself xs)

-- a loop that makes an element for the next one
pub zip_next : {A : Type 0} (R : A → A → Type 0) (xs ys : List A) (i : ℕ) (x y : A) → AllZip R (take i xs) ys → slice_get xs i ≡ Some x → R x y
    → AllZip R (take (i + 1) xs) (ys ++ y ∷ [])
zip_next R xs ys i x y all found next = all_zip_more R xs ys i x y (slice_get_within xs i x found) (sym (get_or_from_slice_get xs i x x found)) all next
