-- Well-formed places and stack, as the content of a primary map.
-- For the crates of maps.
use Rattle.std.proofs.Common.{◌≡◌, ◌⊎◌, ◌↔◌, inl, ◌+◌, ◌<◌, ◌≤◌, Bool, true, nat_eq, List, ◌∷◌, length, slice_get, Option, None, Some, refl, subst, arith, eq-eqb}
use Rattle.std.proofs.Common.{inr, ℕ, [], sym, ap}
use Rattle.std.proofs.lemmas.Option.{slice_get_within, same_Some}
use Rattle.slotmap_core.specs.Words.{list_any, last_version, MakesRoom, Content, IsContent, IsStack, IsLive, with_value, Detached, Retired, detached, StackMap, content_of_places, IsVersion, IsStacked}
use Rattle.slotmap_core.specs.Words.{Key, Uses, places, Place, Live, Vacant, live, next, offer, IsOn}
use Rattle.slotmap_core.proofs.Places.PlacesLemmas.{key, get-live, contains-detached, retired_at, get-next_at, vacant_at, total}
use Rattle.slotmap_core.proofs.General.KeyLemmas.{keys_total, nat_tests}
use Rattle.slotmap_core.proofs.Contents.LeaveLemmas.{same_live}
use Rattle.std.specs.FinMap as map
use Rattle.std.specs.FinSet as set
pub use Rattle.slotmap_core.proofs.General.Maps.{some_is}

on_list : (vs : List ℕ) (i : ℕ) → IsOn vs i ↔ (list_any (λ y. nat_eq y i) vs ≡ true)
on_list [] i = grind arith
on_list (v ∷ vs) i = grind (arith, nat_tests, on_list vs i)

module _ {V : Type 0} where
  -- the place of a live key
  pub live_at : (ps : List (Place V)) (k : Key) → map.contains_key (live ps) k ≡ true → (x : V) × (slice_get ps k.index ≡ Some (Live k.version x))
  live_at ps k is = grind (arith, nat_tests, get-live ps k)

  pub kept_at : (ps : List (Place V)) (k : Key) → set.contains (detached ps) k ≡ true → slice_get ps k.index ≡ Some (Detached k.version)
  kept_at ps k is = grind (arith, nat_tests, contains-detached ps k)

  -- the key that a place belongs to
  abbrev key_of : ℕ → Place V → Option Key
  key_of i (Live version value) = Some (key i version)
  key_of i (Detached version) = Some (key i version)
  key_of i (Vacant n) = None
  key_of i Retired = Some (key i last_version)

module _ {V : Type 0} (m : StackMap V) (stacked : IsStacked m.places m.vacant) where
  -- the place of a key that is live, detached or retired
  used_at : (k : Key) → Uses (content_of_places m) k → (place : Place V) × (slice_get m.places k.index ≡ Some place) × (key_of k.index place ≡ Some k)
  used_at k (inl (inl is)) = let at = live_at m.places k is in (Live k.version at.0, at.1, refl)
  used_at k (inl (inr is)) = (Detached k.version, kept_at m.places k is, refl)
  used_at k (inr is) = let at = retired_at m.places k is in (Retired, at.0, ap (λ v. Some (key k.index v)) (sym at.1))

  used_version : (k : Key) → Uses (content_of_places m) k → IsVersion k.version
  used_version k uses = let at = used_at k uses in grind (arith, stacked.versions k.index at.0 at.1)

  vacant_slot_at : (i : ℕ) → map.contains_key (next m.places) i ≡ true → (n : ℕ) × (0 < i) × (slice_get m.places i ≡ Some (Vacant n))
  vacant_slot_at i is = let there = some_is (map.get (next m.places) i) is in let at = vacant_at m.places i there.0 there.1 in (there.0, at.0, at.1)

  places_all : places (content_of_places m) + 1 ≡ length m.places
  places_all = omega (arith, total m.places 1 stacked.sentinel)

  pub IsContent-stacked : length m.places ≤ m.capacity + 1 → IsContent true (content_of_places m)
  IsContent-stacked holds = record {
    keys = λ k uses. grind (arith, used_at k uses, used_version k uses, slice_get_within m.places k.index, stacked.fits);
    vacancies = λ i v is. (let at = vacant_at m.places i v is in grind (arith, stacked.versions i (Vacant v) at.1, slice_get_within m.places i, stacked.fits));
    had_keys = λ i v is. grind (arith, vacant_at m.places i v is, stacked.had_keys i v);
    last = λ k is. eq-eqb k.version last_version (retired_at m.places k is).1;
    within = λ k uses. grind (arith, used_at k uses, stacked.sentinel, places_all, slice_get_within m.places k.index);
    vacant = λ i is. grind (arith, vacant_slot_at i is, places_all, slice_get_within m.places i);
    apart = λ a b uses_a uses_b same. grind (arith, used_at a uses_a, used_at b uses_b);
    not_live_and_detached = λ k is_live is_detached. grind (arith, live_at m.places k, kept_at m.places k);
    not_standing_and_retired = λ k stands is_retired. grind (arith, live_at m.places k, kept_at m.places k, retired_at m.places k);
    not_used_and_vacant = λ k uses is. grind (arith, vacant_slot_at k.index is, used_at k uses);
    limit = omega (arith, places_all, stacked.fits);
    offers = λ below. offers m.vacant refl;
    stacked = λ stack is. is_stack stack (same_Some m.vacant stack is);
    room_fits = omega (arith, places_all, stacked.fits);
    reused = λ _. omega (arith, places_all, stacked.fits);
    capacity_fits = omega (arith, places_all);
  }
    where
      offers : (vs : List ℕ) → m.vacant ≡ vs → (map.get (next m.places) (offer m.places m.vacant).index ≡ Some (offer m.places m.vacant).version)
          ⊎ ((map.len (next m.places) ≡ 0) × ((offer m.places m.vacant).index ≡ places (content_of_places m) + 1) × ((offer m.places m.vacant).version ≡ 1))
      offers [] is = rw is (inr (omega (arith, stacked.counted, ap length is), sym places_all, refl))
      offers (i ∷ rest) is = let at = stacked.listed i (subst (λ vs. IsOn vs i) (sym is) (inl refl)) in rw (is, at.1.1) (inl (get-next_at m.places i at.1.0 at.0 at.1.1))

      is_stack : (stack : List ℕ) → m.vacant ≡ stack → IsStack (content_of_places m) stack
      is_stack stack is = grind (arith, set.contains-from_list_nat, on_list stack, get-next_at, vacant_slot_at)

-- another value under a live key keeps a content well formed
module _ {V : Type 0} (reuses : Bool) (c : Content V) (well : IsContent reuses c) (k : Key) (is_live : IsLive c k) (w : V) where
  pub IsContent-with_value : IsContent reuses (with_value c k w)
  IsContent-with_value =
      let lists = λ (stack : List ℕ) (is : c.stack ≡ Some stack). (well.stacked stack is).lists in
      let once = λ (stack : List ℕ) (is : c.stack ≡ Some stack). (well.stacked stack is).once in
      let top = λ (stack : List ℕ) (is : c.stack ≡ Some stack). (well.stacked stack is).top in
      grind (arith, map.len-insert keys_total c.live k w, same_live c k w is_live, lists, once, top)

-- if there is room for n more keys, nothing has to be allocated
pub room_had : {P : Type 0} (c : Content P) (n : ℕ) (ok : Type 0) → ok → IsContent true c → n ≤ c.room → MakesRoom true c n ok c
room_had c n ok is well room = grind arith
