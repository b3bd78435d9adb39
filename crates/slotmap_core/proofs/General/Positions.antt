-- Lists cut at positions: what stands before an element, between two of them and after.
-- For runs.
use Rattle.std.proofs.Common.{◌≡◌, ◌+◌, ◌<◌, ◌∷◌, ◌++◌, sym, ap, ◌∙◌, append_assoc, length-append, arith, ℕ, zero, suc, List, [], length, take, drop}
use Rattle.std.proofs.lemmas.{Option.slice_get_within, Option.get_or_from_slice_get, Grind.common_steps, List.nil_from_length}
use Rattle.std.proofs.lemmas.List.Elements.{All-from_recursion}
use Rattle.std.proofs.lemmas.Slice.Zip.{AllZip-left}
use Rattle.slotmap_core.specs.Words.{AllByRecursion, AllZip, slice_get, Some, refl}

module _ {X : Type 0} where
  some_injective : (x y : X) → Some x ≡ Some y → x ≡ y
  some_injective x y h = cc

  -- x stands at position i
  pub record SplitsAt (xs : List X) (i : ℕ) (x : X) : Type 0 where
    pub before : List X
    pub after : List X
    pub is : xs ≡ before ++ x ∷ after
    pub at : length before ≡ i

  pub split_at : (xs : List X) (i : ℕ) (x : X) → slice_get xs i ≡ Some x → SplitsAt xs i x
  split_at [] i x h = absurd (cc)
  split_at (z ∷ zs) zero x h = record { before = []; after = zs; is = ap (λ y. y ∷ zs) (some_injective _ _ h); at = refl }
  split_at (z ∷ zs) (suc i) x h = let rest = split_at zs i x h in record { before = z ∷ rest.before; after = rest.after; is = ap (λ l. z ∷ l) rest.is; at = omega (arith, rest.at) }

  -- x stands at position i, and y at the later position j
  pub record SplitsAtTwo (xs : List X) (i j : ℕ) (x y : X) : Type 0 where
    pub before : List X
    pub between : List X
    pub after : List X
    pub is : xs ≡ before ++ x ∷ (between ++ y ∷ after)
    pub at : length before ≡ i
    pub apart : length between + i + 1 ≡ j

  pub split_at_two : (xs : List X) (i j : ℕ) (x y : X) → i < j → slice_get xs i ≡ Some x → slice_get xs j ≡ Some y → SplitsAtTwo xs i j x y
  split_at_two [] i j x y less h g = absurd (cc)
  split_at_two (z ∷ zs) i zero x y less h g = absurd (omega arith)
  split_at_two (z ∷ zs) zero (suc j) x y less h g =
      let rest = split_at zs j y g in
      record { before = []; between = rest.before; after = rest.after; is = ap (λ w. w ∷ zs) (some_injective _ _ h) ∙ ap (λ l. x ∷ l) rest.is; at = refl; apart = omega (arith, rest.at) }
  split_at_two (z ∷ zs) (suc i) (suc j) x y less h g =
      let rest = split_at_two zs i j x y (omega arith) h g in
      record { before = z ∷ rest.before; between = rest.between; after = rest.after; is = ap (λ l. z ∷ l) rest.is; at = omega (arith, rest.at); apart = omega (arith, rest.apart) }

  -- x stands at position i, and y right after it
  pub record SplitsAtPair (xs : List X) (i : ℕ) (x y : X) : Type 0 where
    pub before : List X
    pub after : List X
    pub is : xs ≡ before ++ x ∷ y ∷ after
    pub at : length before ≡ i

  pub split_at_pair : (xs : List X) (i : ℕ) (x y : X) → slice_get xs i ≡ Some x → slice_get xs (i + 1) ≡ Some y → SplitsAtPair xs i x y
  split_at_pair xs i x y h g =
      let two = split_at_two xs i (i + 1) x y (omega arith) h g in
      record { before = two.before; after = two.after; at = two.at; is = two.is ∙ ap (λ l. two.before ++ x ∷ (l ++ y ∷ two.after)) (nil_from_length two.between (omega (arith, two.apart))) }

  before_seam : (xs ys : List X) (n : ℕ) (z : X) → slice_get xs n ≡ Some z → slice_get (xs ++ ys) n ≡ Some z
  before_seam [] ys n z h = absurd (cc)
  before_seam (w ∷ xs) ys zero z h = h
  before_seam (w ∷ xs) ys (suc n) z h = before_seam xs ys n z h

  past_seam : (xs ys : List X) (x : X) (n : ℕ) → slice_get (xs ++ x ∷ ys) (length xs + 1 + n) ≡ slice_get ys n
  past_seam [] ys x n = let next : length {A = X} [] + 1 + n ≡ suc n = omega arith in rw next refl
  past_seam (z ∷ xs) ys x n = let next : length (z ∷ xs) + 1 + n ≡ suc (length xs + 1 + n) = omega arith in rw next (past_seam xs ys x n)

  -- an element of the part before x, by its position
  pub before_in : {xs : List X} {i : ℕ} {x : X} (s : SplitsAt xs i x) (n : ℕ) (z : X) → slice_get s.before n ≡ Some z → slice_get xs n ≡ Some z
  before_in {x = x} s n z h = ap (λ l. slice_get l n) s.is ∙ before_seam s.before (x ∷ s.after) n z h

  -- the elements after x are those from the next position on
  pub stands_after : {xs : List X} {i : ℕ} {x : X} (s : SplitsAt xs i x) (n : ℕ) → slice_get s.after n ≡ slice_get xs (i + 1 + n)
  stands_after {xs} {i} {x} s n = grind (arith, past_seam)

  module _ {xs : List X} {i j : ℕ} {x y : X} (s : SplitsAtTwo xs i j x y) (n : ℕ) (z : X) where
    -- an element of the part before, and one of the part between, by their positions
    pub stands_before : slice_get s.before n ≡ Some z → slice_get xs n ≡ Some z
    stands_before h = ap (λ l. slice_get l n) s.is ∙ before_seam s.before (x ∷ (s.between ++ y ∷ s.after)) n z h

    pub stands_between : slice_get s.between n ≡ Some z → slice_get xs (i + 1 + n) ≡ Some z
    stands_between h = grind (arith, past_seam, before_seam)

  -- the elements after y
  pub stands_past : {xs : List X} {i j : ℕ} {x y : X} (s : SplitsAtTwo xs i j x y) (n : ℕ) → slice_get s.after n ≡ slice_get xs (j + 1 + n)
  stands_past {x = x} {y = y} s n =
      let long = length-append s.before (x ∷ s.between) in
      stands_after (record { before = s.before ++ x ∷ s.between; after = s.after; is = s.is ∙ sym (append_assoc s.before (x ∷ s.between) (y ∷ s.after)); at = omega (arith, s.at, s.apart) }) n

  pub at_seam : (xs ys : List X) (x : X) → slice_get (xs ++ x ∷ ys) (length xs) ≡ Some x
  at_seam [] ys x = refl
  at_seam (z ∷ xs) ys x = at_seam xs ys x

-- what holds of each element of a part of a list holds of an element at a position in that part
pub at_in_part : {X : Type 0} (P : X → Type 0) (start size n : ℕ) (xs : List X) (x : X) → AllByRecursion P (take size (drop start xs)) → n < size
    → slice_get xs (start + n) ≡ Some x → P x
at_in_part P start size n xs x all less h =
    grind (arith, common_steps, All-from_recursion P (take size (drop start xs)) all n x, slice_get_within xs (start + n) x h, (get_or_from_slice_get xs (start + n) x x h))

pub at_in_first : {X : Type 0} (P : X → Type 0) (size n : ℕ) (xs : List X) (x : X) → AllByRecursion P (take size xs) → n < size → slice_get xs n ≡ Some x → P x
at_in_first P size n xs x all less h = at_in_part P 0 size n xs x all less (let same : 0 + n ≡ n = omega arith in rw same h)

-- what holds of the elements at each position holds of both lists
pub zipped_by_positions : {X Y : Type 0} (P : X → Y → Type 0) (xs : List X) (ys : List Y) → length xs ≡ length ys
    → ((n : ℕ) (x : X) (y : Y) → n < length xs → slice_get xs n ≡ Some x → slice_get ys n ≡ Some y → P x y) → AllZip P xs ys
zipped_by_positions P [] [] long each = tt
zipped_by_positions P (x ∷ xs) (y ∷ ys) long each = (each 0 x y (omega arith) refl refl, zipped_by_positions P xs ys (omega arith) (λ n z w less. each (suc n) z w (omega arith)))
zipped_by_positions P _ _ long each = absurd (omega arith)

-- what holds of both lists, place by place, holds of the elements at a position
pub zipped_at : {X Y : Type 0} (P : X → Y → Type 0) (xs : List X) (ys : List Y) (n : ℕ) (x : X) (y : Y) → AllZip P xs ys → slice_get xs n ≡ Some x → slice_get ys n ≡ Some y → P x y
zipped_at P xs ys n x y all h g = grind (arith, AllZip-left P xs ys all n)
