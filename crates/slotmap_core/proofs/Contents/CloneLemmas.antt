-- What a primary map with clones of another's values has in common with it.
-- For the crates of maps and callers.
use Rattle.std.proofs.Common.{◌≡◌, ℕ, ◌+◌, ◌≤◌, Bool, true, List, [], ◌∷◌, Option, Some, refl, ap, subst, arith}
use Rattle.slotmap_core.specs.Words.{ClonesEqual, AreClones, IsCloneOf, Content, IsContent, used, places, most, IsCopy, IsCloneBy, Key, key_cmp}
use Rattle.slotmap_core.proofs.General.{KeyLemmas.keys_total, KeyLemmas.exact_keys, Maps.same_len}
use Rattle.slotmap_core.proofs.Places.PlaceClones.{clone_is_some}
use Rattle.std.specs.FinMap as map
use Rattle.std.specs.FinSet as set

-- where clones equal their values, so do those that may be missing
pub same_clone : {V : Type 0} (is_clone : V → V → Type 0) → ClonesEqual is_clone → (o copy : Option V) → IsCloneOf is_clone o copy → copy ≡ o
same_clone is_clone same o copy is = grind arith

-- the content with the same keys and other values, with room and capacity of its own
abbrev pub with_live : {A V : Type 0} → Content A → map.FinMap key_cmp V → ℕ → ℕ → Content V
with_live c live room capacity = record {
  live = live;
  detached = c.detached;
  retired = c.retired;
  next = c.next;
  offer = c.offer;
  stack = c.stack;
  room = room;
  capacity = capacity;
}

-- it is well formed, if its room is
pub IsContent-with_live : {A V : Type 0} (reuses reuses2 : Bool) (c : Content A) (live : map.FinMap key_cmp V) → ((k : Key) → map.contains_key live k ≡ map.contains_key c.live k)
    → map.len live ≡ map.len c.live → (room capacity : ℕ) → IsContent reuses c → room + used c ≤ most → (reuses2 ≡ true → map.len c.next ≤ room)
    → map.len live + room ≤ capacity → IsContent reuses2 (with_live c live room capacity)
IsContent-with_live reuses reuses2 c live each all room capacity well room_fits reused capacity_fits =
    let lists = λ (stack : List ℕ) (is : c.stack ≡ Some stack). (well.stacked stack is).lists in
    let once = λ (stack : List ℕ) (is : c.stack ≡ Some stack). (well.stacked stack is).once in
    let top = λ (stack : List ℕ) (is : c.stack ≡ Some stack). (well.stacked stack is).top in
    grind (arith, each, all, lists, once, top)

module _ {V : Type 0} (is_clone : V → V → Type 0) (c copy : Content V) (clones : IsCloneBy is_clone c copy) where
  pub clone_live : (k : Key) → map.contains_key copy.live k ≡ map.contains_key c.live k
  clone_live k = clone_is_some is_clone (map.get c.live k) (map.get copy.live k) (clones.live k)

  pub clone_len : map.len copy.live ≡ map.len c.live
  clone_len = same_len keys_total exact_keys (map.len copy.live) copy.live c.live refl clone_live

  pub clone_places : places copy ≡ places c
  clone_places = omega (arith, clone_len, ap set.len clones.detached, ap set.len clones.retired, ap map.len clones.next)

  -- where clones equal their values, it is a copy
  pub clone_copies : ClonesEqual is_clone → IsCopy c copy
  clone_copies same = grind (arith, map.same_map keys_total exact_keys copy.live c.live, same_clone is_clone same)

  -- it is well formed, if its room is the other's
  pub IsContent-clone_same : (reuses : Bool) → IsContent reuses c → copy.room ≡ c.room → copy.capacity ≡ c.capacity → IsContent reuses copy
  IsContent-clone_same reuses well room capacity =
      let same : with_live c copy.live copy.room copy.capacity ≡ copy = grind arith in
      subst (IsContent reuses) same (IsContent-with_live reuses reuses c copy.live clone_live clone_len copy.room copy.capacity well
      (omega (arith, room, well.room_fits)) (λ is. omega (arith, well.reused is, room)) (omega (arith, room, capacity, clone_len, well.capacity_fits)))

-- clones of pairs equal them, where clones of values do
pub pairs_equal : {V : Type 0} (is_clone : V → V → Type 0) → ((x y : V) → is_clone x y → y ≡ x) → (pairs copies : List (Key × V))
    → AreClones is_clone pairs copies → copies ≡ pairs
pairs_equal is_clone same [] [] all = refl
pairs_equal is_clone same (x ∷ xs) (y ∷ ys) all = λ j. (all.0.0 j, same x.1 y.1 all.0.1 j) ∷ pairs_equal is_clone same xs ys all.1 j
pairs_equal is_clone same _ _ all = absurd all
