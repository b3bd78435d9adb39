-- A dense map with clones of another's values.
use Rattle.std.specs.FinMap as map
use Rattle.std.proofs.Common.{◌∷◌, zip, ℕ, zero, suc, List, [], slice_get, Option, None, Some, refl}
use Rattle.slotmap_core.proofs.Common.{AllZip, ClonesEqual, IsCloneOf, AreClones, Content, IsCopy, IsCloneBy, Key, same_from_all_zip}
use Rattle.slotmap_dense.specs.Dense.{Dense, SameOrder, ClonesInOrder}
use Rattle.slotmap_dense.specs.Packed.{IsPacked, dense_of, at_position}
use Rattle.slotmap_dense.proofs.PackedLemmas.{get-packed}

module _ {V : Type 0} (is_clone : V → V → Type 0) where
  clone_there : (values copies : List V) → AllZip is_clone values copies → (i : ℕ) → IsCloneOf is_clone (slice_get values i) (slice_get copies i)
  clone_there [] [] all i = refl
  clone_there [] (w ∷ copies) all i = absurd all
  clone_there (v ∷ values) [] all i = absurd all
  clone_there (v ∷ values) (w ∷ copies) all zero = all.0
  clone_there (v ∷ values) (w ∷ copies) all (suc i) = clone_there values copies all.1 i

  position-clones : (values copies : List V) → AllZip is_clone values copies → (o : Option ℕ) → IsCloneOf is_clone (at_position values o) (at_position copies o)
  position-clones values copies all None = refl
  position-clones values copies all (Some i) = clone_there values copies all i

  -- the same positions, and clones of the values at them
  pub dense-clones : (slots others : Content ℕ) → IsCopy slots others → (keys : List Key) → IsPacked slots.live keys → (values copies : List V) → AllZip is_clone values copies
      → (spare room : ℕ) → IsCloneBy is_clone (dense_of slots keys values spare).content (dense_of others keys copies room).content
  dense-clones slots others same keys packed values copies all spare room = record {
    live = λ k. rw (get-packed slots.live keys packed values k, get-packed slots.live keys packed copies k) (position-clones values copies all (map.get slots.live k));
    detached = same.detached;
    retired = same.retired;
    next = same.next;
    offer = same.offer;
    stack = same.stack;
  }

  -- where clones equal their values, the packed order is the same
  pub same_order : ClonesEqual is_clone → (source copy : Dense V) → ClonesInOrder is_clone source copy → SameOrder source copy
  same_order same source copy order = record { keys = order.keys; values = same_from_all_zip is_clone source.values copy.values order.values same }

  -- pairs of the same keys
  pub pairs-clones : (keys : List Key) (values copies : List V) → AllZip is_clone values copies → AreClones is_clone (zip keys values) (zip keys copies)
  pairs-clones [] values copies all = tt
  pairs-clones (k ∷ keys) [] [] all = tt
  pairs-clones (k ∷ keys) [] (w ∷ copies) all = absurd all
  pairs-clones (k ∷ keys) (v ∷ values) [] all = absurd all
  pairs-clones (k ∷ keys) (v ∷ values) (w ∷ copies) all = ((refl, all.0), pairs-clones keys values copies all.1)
