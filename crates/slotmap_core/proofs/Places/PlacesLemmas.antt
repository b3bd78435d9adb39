-- The live, detached and next keys of a list of places, and how a change of one place changes them.
-- For the crates of maps.
use Rattle.std.proofs.Common.{◌≡◌, ◌≢◌, ◌+◌, ◌<◌, ◌≤◌, ◌∷◌, ◌++◌, set, arith, eq-eqb, ℕ, true, cond, List, [], length, slice_get, Option, None, Some, is_some}
use Rattle.std.proofs.lemmas.Option.{slice_get_past}
use Rattle.slotmap_core.specs.Words.{Key, key_cmp, last_version, add, gather, Place, Live, Detached, Vacant, Retired, live_entry, detached_entry, retired_entry, next_entry, live, detached, next}
use Rattle.slotmap_core.specs.Words.{live_value, is_detached_at, refl, nat_cmp}
use Rattle.slotmap_core.specs.Places.{retired}
use Rattle.slotmap_core.proofs.General.KeyLemmas.{itself, nat_cmp_total, exact_unsigned}
use Rattle.slotmap_core.proofs.General.MapLaws.{live_laws, detached_laws, next_laws, remove_absent, key_tie}
use Rattle.slotmap_core.proofs.General.GatherLemmas.{look, get-gather, len-add, gather-set, gather-push, len-set, len-push}
use Rattle.std.specs.FinMap as map
use Rattle.std.specs.FinSet as set

abbrev pub key : ℕ → ℕ → Key
key i version = record { index = i; version = version }

module _ {V : Type 0} where
  live_fits : (i : ℕ) (p : Place V) (e : Key × V) → live_entry i p ≡ Some e → e.0.index ≡ i
  live_fits i p e is = grind arith

  detached_fits : (i : ℕ) (p : Place V) (e : Key × Unit {0}) → detached_entry i p ≡ Some e → e.0.index ≡ i
  detached_fits i p e is = grind arith

  pub retired_fits : (i : ℕ) (p : Place V) (e : Key × Unit {0}) → retired_entry i p ≡ Some e → e.0.index ≡ i
  retired_fits i p e is = grind arith

  next_fits : (i : ℕ) (p : Place V) (e : ℕ × ℕ) → next_entry i p ≡ Some e → e.0 ≡ i
  next_fits i p e is = grind arith

  -- what is live, detached, retired and next, if place i turns from `old` to `new`
  pub live-set : (ps : List (Place V)) (i : ℕ) (old new : Place V) → slice_get ps i ≡ Some old
      → live (set ps i new) ≡ add (λ m e. map.insert m e.0 e.1) (live_entry i new) (add (λ m e. map.remove m e.0) (live_entry i old) (live ps))
  unfolding live
  live-set ps i old new found = gather-set live_laws (λ k. k.index) live_entry live_fits ps i old new found

  pub detached-set : (ps : List (Place V)) (i : ℕ) (old new : Place V) → slice_get ps i ≡ Some old
      → detached (set ps i new) ≡ add (λ s e. set.insert s e.0) (detached_entry i new)
      (add (λ s e. set.remove s e.0) (detached_entry i old) (detached ps))
  unfolding detached
  detached-set ps i old new found = gather-set detached_laws (λ k. k.index) detached_entry detached_fits ps i old new found

  pub retired-set : (ps : List (Place V)) (i : ℕ) (old new : Place V) → slice_get ps i ≡ Some old
      → retired (set ps i new) ≡ add (λ s e. set.insert s e.0) (retired_entry i new) (add (λ s e. set.remove s e.0) (retired_entry i old) (retired ps))
  unfolding retired
  retired-set ps i old new found = gather-set detached_laws (λ k. k.index) retired_entry retired_fits ps i old new found

  -- what a place other than the first adds to the vacant indices
  abbrev pub vacancy : ℕ → Place V → Option (ℕ × ℕ)
  vacancy i (Live version value) = None
  vacancy i (Detached version) = None
  vacancy i (Vacant n) = Some (i, n)
  vacancy i Retired = None

  next-vacancy : (i : ℕ) (p : Place V) → 0 < i → next_entry i p ≡ vacancy i p
  next-vacancy i p positive = grind arith

  pub no_vacancy : (i : ℕ) (p : Place V) → ((n : ℕ) → p ≢ Vacant n) → vacancy i p ≡ None
  no_vacancy i p other = grind arith

  pub next-set : (ps : List (Place V)) (i : ℕ) (old new : Place V) → 0 < i → slice_get ps i ≡ Some old
      → next (set ps i new) ≡ add (λ m e. map.insert m e.0 e.1) (vacancy i new) (add (λ m e. map.remove m e.0) (vacancy i old) (next ps))
  unfolding next
  next-set ps i old new positive found = rw (next-vacancy i new positive, next-vacancy i old positive) at (gather-set next_laws (λ k. k) next_entry next_fits ps i old new found)

  -- and if a live place is added at the end
  pub live-push : (ps : List (Place V)) (version : ℕ) (value : V) → live (ps ++ Live version value ∷ []) ≡ map.insert (live ps) (key (length ps) version) value
  unfolding live
  live-push ps version value = gather-push live_laws (λ k. k.index) live_entry live_fits ps (Live version value)

  pub detached-push_live : (ps : List (Place V)) (version : ℕ) (value : V) → detached (ps ++ Live version value ∷ []) ≡ detached ps
  unfolding detached
  detached-push_live ps version value = gather-push detached_laws (λ k. k.index) detached_entry detached_fits ps (Live version value)

  pub retired-push_live : (ps : List (Place V)) (version : ℕ) (value : V) → retired (ps ++ Live version value ∷ []) ≡ retired ps
  unfolding retired
  retired-push_live ps version value = gather-push detached_laws (λ k. k.index) retired_entry retired_fits ps (Live version value)

  pub next-push_live : (ps : List (Place V)) (version : ℕ) (value : V) → 0 < length ps → next (ps ++ Live version value ∷ []) ≡ next ps
  unfolding next
  next-push_live ps version value positive = rw (next-vacancy (length ps) (Live version value) positive) at (gather-push next_laws (λ k. k) next_entry next_fits ps (Live version value))

  -- a look-up reads the place at the key's index
  pub get-live : (ps : List (Place V)) (k : Key) → map.get (live ps) k ≡ live_value k.version (slice_get ps k.index)
  unfolding live
  get-live ps k = grind (arith, get-gather live_laws (λ k. k.index) live_entry live_fits ps k, key_tie k)

  -- a look-up of a vacant index reads the place there
  get-next : (ps : List (Place V)) (i : ℕ) → map.get (next ps) i ≡ look next_laws (λ k. k) next_entry next_fits i (slice_get ps i)
  unfolding next
  get-next ps i = get-gather next_laws (λ k. k) next_entry next_fits ps i

  pub get-next_at : (ps : List (Place V)) (i n : ℕ) → 0 < i → slice_get ps i ≡ Some (Vacant n) → map.get (next ps) i ≡ Some n
  get-next_at ps i n positive found = grind (arith, get-next)

  pub vacant_at : (ps : List (Place V)) (i n : ℕ) → map.get (next ps) i ≡ Some n → (0 < i) × (slice_get ps i ≡ Some (Vacant n))
  vacant_at ps i n is = grind (arith, get-next ps i, itself nat_cmp_total exact_unsigned i)

-- the sentinel's place alone holds nothing
pub sentinel_alone : (V : Type 0) (n : ℕ) → (live {V = V} (Vacant n ∷ []) ≡ map.empty) × (detached {V = V} (Vacant n ∷ []) ≡ set.empty)
    × (retired {V = V} (Vacant n ∷ []) ≡ set.empty) × (next {V = V} (Vacant n ∷ []) ≡ map.empty)
unfolding live detached retired next
sentinel_alone V n = (refl, refl, refl, refl)

module _ {V : Type 0} where
  -- how many keys are live, after a change
  pub len-live-set : (ps : List (Place V)) (i : ℕ) (old new : Place V) → slice_get ps i ≡ Some old
      → map.len (live (set ps i new)) + cond (is_some (live_entry i old)) 1 0 ≡ map.len (live ps) + cond (is_some (live_entry i new)) 1 0
  unfolding live
  len-live-set ps i old new found = grind (arith, len-set live_laws (λ k. k.index) live_entry live_fits 0 ps i old new found)

  pub len-live-push : (ps : List (Place V)) (new : Place V) → map.len (live (ps ++ new ∷ [])) ≡ map.len (live ps) + cond (is_some (live_entry (length ps) new)) 1 0
  unfolding live
  len-live-push ps new = grind (arith, len-push live_laws (λ k. k.index) live_entry live_fits 0 ps new)

  pub len-next-set : (ps : List (Place V)) (i : ℕ) (old new : Place V) → 0 < i → slice_get ps i ≡ Some old
      → map.len (next (set ps i new)) + cond (is_some (vacancy i old)) 1 0 ≡ map.len (next ps) + cond (is_some (vacancy i new)) 1 0
  unfolding next
  len-next-set ps i old new positive found =
      grind (arith, next-vacancy i old positive, next-vacancy i new positive, len-set next_laws (λ k. k) next_entry next_fits 0 ps i old new found)

  total_from : (j : ℕ) (ps : List (Place V)) → 0 < j
      → map.len (gather (map.empty {X = V} {R = key_cmp}) (λ m e. map.insert m e.0 e.1) live_entry j ps) + set.len
      (gather (set.empty {R = key_cmp}) (λ s e. set.insert s e.0) detached_entry j ps) + set.len
      (gather (set.empty {R = key_cmp}) (λ s e. set.insert s e.0) retired_entry j ps) + map.len
      (gather (map.empty {X = ℕ} {R = nat_cmp}) (λ m e. map.insert m e.0 e.1) next_entry j ps) ≡ length ps
  total_from j [] positive = omega (arith, map.len-empty key_cmp V, set.len-empty key_cmp, map.len-empty nat_cmp ℕ)
  total_from j (p ∷ ps) positive =
      grind (
        arith,
        total_from (j + 1) ps (omega arith),
        next-vacancy j p positive,
        len-add live_laws (λ k. k.index) live_entry live_fits j p ps,
        len-add detached_laws (λ k. k.index) detached_entry detached_fits j p ps,
        len-add detached_laws (λ k. k.index) retired_entry retired_fits j p ps,
        len-add next_laws (λ k. k) next_entry next_fits j p ps,
      )

  -- each index but 0 is live, detached, retired or vacant
  pub total : (ps : List (Place V)) (n : ℕ) → slice_get ps 0 ≡ Some (Vacant n) → map.len (live ps) + set.len (detached ps) + set.len (retired ps) + map.len (next ps) + 1 ≡ length ps
  unfolding live detached retired next
  total [] n found = absurd (cc)
  total (p ∷ ps) n found = grind (arith, total_from)

pub next-remove_past : {V : Type 0} (ps : List (Place V)) (i : ℕ) → length ps ≤ i → map.remove (next ps) i ≡ next ps
next-remove_past ps i past = grind (arith, remove_absent, nat_cmp_total, exact_unsigned, get-next, slice_get_past)

pub contains-detached : {V : Type 0} (ps : List (Place V)) (k : Key) → set.contains (detached ps) k ≡ is_detached_at k.version (slice_get ps k.index)
unfolding detached
contains-detached ps k = grind (arith, get-gather detached_laws (λ k. k.index) detached_entry detached_fits ps k, key_tie k)

-- the place of a retired key
pub retired_at : {V : Type 0} (ps : List (Place V)) (k : Key) → set.contains (retired ps) k ≡ true → (slice_get ps k.index ≡ Some Retired) × (k.version ≡ last_version)
unfolding retired
retired_at ps k is = grind (arith, get-gather detached_laws (λ k. k.index) retired_entry retired_fits ps k, key_tie k)

pub get-live_at : {V : Type 0} (ps : List (Place V)) (k : Key) (i : ℕ) (value : V) → k.index ≡ i → slice_get ps i ≡ Some (Live k.version value) → map.get (live ps) k ≡ Some value
get-live_at ps k i value at found = grind (arith, get-live ps k, eq-eqb k.version k.version refl)
