-- Places with clones of the values of others: the same ones are detached, retired and vacant, and at each live key is a clone.
-- For the crates of maps.
use Rattle.std.proofs.Common.{◌≡◌, ℕ, List, [], ◌∷◌, length, slice_get, Option, Some, is_some, ap, arith}
use Rattle.std.proofs.lemmas.Slice.Zip.{AllZip-left, AllZip-right}
use Rattle.slotmap_core.specs.Words.{IsCloneOf, IsPlaceClone, ArePlaceClones, detached_entry, retired_entry, next_entry, content_of_places, HasVersion, IsCloneBy, Key, Place, Vacant, live, detached}
use Rattle.slotmap_core.specs.Words.{next, offer, IsStacked}
use Rattle.slotmap_core.specs.Places.{retired}
use Rattle.slotmap_core.proofs.General.GatherLemmas.{gather-agree}
use Rattle.slotmap_core.proofs.General.ListLemmas.{zip_length, zip_left, zip_right}
use Rattle.slotmap_core.proofs.Places.PlacesLemmas.{get-live}
use Rattle.std.specs.FinMap as map
use Rattle.std.specs.FinSet as set

-- a clone is there where a value is
pub clone_is_some : {V : Type 0} (is_clone : V → V → Type 0) (o copy : Option V) → IsCloneOf is_clone o copy → is_some copy ≡ is_some o
clone_is_some is_clone o copy is = grind arith

version-clone : {V : Type 0} (is_clone : V → V → Type 0) (p q : Place V) → IsPlaceClone is_clone p q → HasVersion p → HasVersion q
version-clone is_clone p q is good = grind arith

module _ {V : Type 0} (is_clone : V → V → Type 0) (ps qs : List (Place V)) (all : ArePlaceClones is_clone ps qs) where
  pub detached-clones : detached qs ≡ detached ps
  unfolding detached
  detached-clones = gather-agree (IsPlaceClone is_clone) set.empty (λ s e. set.insert s e.0) detached_entry detached_entry (λ i p q is. grind arith) 0 ps qs all

  pub retired-clones : retired qs ≡ retired ps
  unfolding retired
  retired-clones = gather-agree (IsPlaceClone is_clone) set.empty (λ s e. set.insert s e.0) retired_entry retired_entry (λ i p q is. grind arith) 0 ps qs all

  pub next-clones : next qs ≡ next ps
  unfolding next
  next-clones = gather-agree (IsPlaceClone is_clone) map.empty (λ m e. map.insert m e.0 e.1) next_entry next_entry (λ i p q is. grind arith) 0 ps qs all

  pub live-clones : (k : Key) → IsCloneOf is_clone (map.get (live ps) k) (map.get (live qs) k)
  live-clones k = grind (arith, get-live, AllZip-left (IsPlaceClone is_clone) ps qs all k.index, AllZip-right (IsPlaceClone is_clone) ps qs all k.index)

  pub length-clones : length qs ≡ length ps
  length-clones = zip_length (IsPlaceClone is_clone) ps qs all

  -- the place at an index, and the converse
  pub clone_at : (i : ℕ) (p : Place V) → slice_get ps i ≡ Some p → (q : Place V) × (slice_get qs i ≡ Some q) × IsPlaceClone is_clone p q
  clone_at i p found = zip_right (IsPlaceClone is_clone) ps qs all i p found

  pub cloned_at : (i : ℕ) (q : Place V) → slice_get qs i ≡ Some q → (p : Place V) × (slice_get ps i ≡ Some p) × IsPlaceClone is_clone p q
  cloned_at i q found = zip_left (IsPlaceClone is_clone) ps qs all i q found

  -- the same indices are vacant
  pub vacant_there : (i n : ℕ) → slice_get ps i ≡ Some (Vacant n) → slice_get qs i ≡ Some (Vacant n)
  vacant_there i n found = grind (arith, clone_at i)

  pub vacant_here : (i n : ℕ) → slice_get qs i ≡ Some (Vacant n) → slice_get ps i ≡ Some (Vacant n)
  vacant_here i n found = grind (arith, cloned_at i)

  pub IsStacked-clones : (vacant : List ℕ) → IsStacked ps vacant → IsStacked qs vacant
  IsStacked-clones vacant stacked = grind (arith, vacant_there, length-clones, cloned_at, version-clone, vacant_here, next-clones)

  -- the key that the next insert returns
  offer-clones : (vacant : List ℕ) → IsStacked ps vacant → offer qs vacant ≡ offer ps vacant
  offer-clones [] stacked = ap (λ n. record { index = n; version = 1 }) length-clones
  offer-clones (i ∷ rest) stacked = grind (arith, vacant_there)

  pub content-clones : (vacant : List ℕ) → IsStacked ps vacant → (c d : ℕ)
      → IsCloneBy is_clone (content_of_places (record { places = ps; vacant = vacant; capacity = c })) (content_of_places (record { places = qs; vacant = vacant; capacity = d }))
  content-clones vacant stacked c d = grind (arith, live-clones, detached-clones, retired-clones, next-clones, offer-clones)
