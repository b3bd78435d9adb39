-- Three vectors with clones of the payloads of others, and iterators over the slots in them.
use Rattle.std.proofs.Common.{◌+◌, ◌∷◌, ℕ, List, [], drop, Option, None, Some, refl, sym, ◌∙◌, arith}
use Rattle.slotmap_core.proofs.Common.{AllZip, IsCloneOf, AreClones, zip_length, zip_left, zip_drop, clone_is_some}
use Rattle.slotmap_slots.specs.Slot.{AreSlotClones}
use Rattle.slotmap_slots.specs.declared.layout.Use.{Use}
use Rattle.slotmap_basic.specs.Columns.{zip_slots}
use Rattle.slotmap_basic.specs.Iter.{pairs_from, pairs_left, IsIter}

-- clones of optional values, as the impl of `Clone` for them says it
pub option_clones : {V : Type 0} (is_clone : V → V → Type 0) (R : Option V → Option V → Type 0) → ((w : V) → R None (Some w) → ⊥) → ((v : V) → R (Some v) None → ⊥)
    → ((v w : V) → R (Some v) (Some w) → is_clone v w) → (xs ys : List (Option V)) → AllZip R xs ys → AllZip (IsCloneOf is_clone) xs ys
option_clones is_clone R more less both [] [] all = tt
option_clones is_clone R more less both [] (y ∷ ys) all = absurd all
option_clones is_clone R more less both (x ∷ xs) [] all = absurd all
option_clones {V} is_clone R more less both (x ∷ xs) (y ∷ ys) all = (one x y all.0, option_clones is_clone R more less both xs ys all.1)
  where
    one : (x y : Option V) → R x y → IsCloneOf is_clone x y
    one x y r = grind arith

module _ {P : Type 0} (is_clone : P → P → Type 0) where
  -- slots in three vectors, the last of which has clones
  pub zip-clones : (versions : List ℕ) (uses : List Use) (xs ys : List (Option P)) → AllZip (IsCloneOf is_clone) xs ys
      → AreSlotClones is_clone (zip_slots versions uses xs) (zip_slots versions uses ys)
  zip-clones [] uses xs ys all = tt
  zip-clones (v ∷ versions) [] xs ys all = tt
  zip-clones (v ∷ versions) (l ∷ uses) [] [] all = tt
  zip-clones (v ∷ versions) (l ∷ uses) [] (y ∷ ys) all = absurd all
  zip-clones (v ∷ versions) (l ∷ uses) (x ∷ xs) [] all = absurd all
  zip-clones (v ∷ versions) (l ∷ uses) (x ∷ xs) (y ∷ ys) all = (record { version = refl; usage = refl; payload = all.0 }, zip-clones versions uses xs ys all.1)

module _ {V : Type 0} (is_clone : V → V → Type 0) where
  pairs_from-clones : (i : ℕ) (versions : List ℕ) (xs ys : List (Option V)) → AllZip (IsCloneOf is_clone) xs ys → AreClones is_clone (pairs_from i versions xs) (pairs_from i versions ys)
  pairs_from-clones i [] xs ys all = tt
  pairs_from-clones i (v ∷ versions) [] [] all = tt
  pairs_from-clones i (v ∷ versions) [] (y ∷ ys) all = absurd all
  pairs_from-clones i (v ∷ versions) (x ∷ xs) [] all = absurd all
  pairs_from-clones i (v ∷ versions) (None ∷ xs) (None ∷ ys) all = pairs_from-clones (i + 1) versions xs ys all.1
  pairs_from-clones i (v ∷ versions) (None ∷ xs) (Some y ∷ ys) all = absurd (let no = all.0 in cc)
  pairs_from-clones i (v ∷ versions) (Some x ∷ xs) (None ∷ ys) all = absurd all.0
  pairs_from-clones i (v ∷ versions) (Some x ∷ xs) (Some y ∷ ys) all = ((refl, all.0), pairs_from-clones (i + 1) versions xs ys all.1)

  module _ (versions : List ℕ) (xs ys : List (Option V)) (all : AllZip (IsCloneOf is_clone) xs ys) where
    -- the pairs that are left
    pub pairs_left-clones : (i : ℕ) → AreClones is_clone (pairs_left i versions xs) (pairs_left i versions ys)
    pairs_left-clones i = pairs_from-clones i (drop i versions) (drop i xs) (drop i ys) (zip_drop (IsCloneOf is_clone) i xs ys all)

    pub IsIter-clones : (i left : ℕ) → IsIter versions xs i left → IsIter versions ys i left
    IsIter-clones i left iterates = record {
      values_length = zip_length (IsCloneOf is_clone) xs ys all ∙ iterates.values_length;
      fits = iterates.fits;
      placed = λ j v value from at found. (let x = zip_left (IsCloneOf is_clone) xs ys all j value found in grind (arith, clone_is_some is_clone x.0 value x.2, iterates.placed j v x.0 from at x.1));
      counted = iterates.counted ∙ sym (zip_length _ (pairs_left i versions xs) (pairs_left i versions ys) (pairs_left-clones i));
    }
