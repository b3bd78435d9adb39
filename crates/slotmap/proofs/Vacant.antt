-- How many slots there are, how many are vacant, and for how many keys there is room: once a key was inserted, once one was
-- removed, and once all were.
use Rattle.std.specs.FinMap as map
use Rattle.std.specs.FinSet as set
use Rattle.std.specs.{List.list_any, Ordering.eq_by_cmp, Ordering.nat_cmp, Cmp.nat_cmp_total}
use Rattle.std.proofs.Common.{◌≡◌, ◌+◌, ◌<◌, ◌≤◌, ◌∙◌, ℕ, zero, suc, Bool, true, false, List, [], ◌∷◌, inl, inr, refl, sym, ap, arith}
use Rattle.slotmap_core.proofs.General.KeyLemmas.{keys_total, exact_keys, itself, tied}
use Rattle.slotmap.specs.Words.{Key, key_cmp, Content, IsContent, IsLive, IsNew, HasVacant, Inserts, Removes, Leaves, is_last, next_version, places}

some_item : (s : set.FinSet key_cmp) (n : ℕ) (ks : List Key) → set.items s ≡ ks → set.len s ≡ suc n → (k : Key) × (set.contains s k ≡ true)
some_item s n [] at len =
    let none : s ≡ set.empty = set.same_set keys_total exact_keys s set.empty (λ q. set.contains-items s q ∙ ap (list_any (eq_by_cmp key_cmp q)) at ∙ sym (set.contains-empty key_cmp q)) in
    absurd (omega (arith, ap set.len none, set.len-empty key_cmp))
some_item s n (k ∷ ks) at len = (k, set.contains-items s k ∙ ap (list_any (eq_by_cmp key_cmp k)) at ∙ grind (arith, itself keys_total exact_keys k))

item_removed : (s : set.FinSet key_cmp) (k : Key) → set.contains s k ≡ true → set.len (set.remove s k) + 1 ≡ set.len s
item_removed s k there = grind (arith, set.len-remove keys_total s k, set.empty_of_len s, set.contains-empty key_cmp k)

-- a subset has no more items
len-subset : (n : ℕ) (s t : set.FinSet key_cmp) → set.len s ≡ n → ((q : Key) → set.contains s q ≡ true → set.contains t q ≡ true) → set.len s ≤ set.len t
len-subset zero s t len within = omega arith
len-subset (suc n) s t len within =
    let some = some_item s n (set.items s) refl len in
    let a = item_removed s some.0 some.1 in
    let b = item_removed t some.0 (within some.0 some.1) in
    let rest = len-subset n (set.remove s some.0) (set.remove t some.0) (omega arith)
    (λ q there. grind (arith, set.contains-remove keys_total s some.0 q, set.contains-remove keys_total t some.0 q, within q)) in
    omega arith

module _ {V : Type 0} (old new : Content V) where
  -- where keys are only removed, no more slots become vacant than keys
  pub vacant_at_most : Leaves old new → map.len new.next + map.len new.live ≤ map.len old.next + map.len old.live
  vacant_at_most leaves =
      let retired = len-subset (set.len old.retired) old.retired new.retired refl (λ q there. grind (arith, leaves.retired q)) in
      let detached = ap set.len leaves.detached in
      let places = leaves.same_places in
      omega arith

  -- once all keys were removed, each of their slots is vacant, if none was the last of its slot
  pub vacant_again : Leaves old new → new.live ≡ map.empty → ((k : Key) → IsLive old k → is_last k ≡ false) → map.len new.next ≡ map.len old.next + map.len old.live
  vacant_again leaves empty not_last =
      let retired = ap set.len (set.same_set keys_total exact_keys new.retired old.retired (λ q. grind (arith, leaves.retired q, not_last q))) in
      let detached = ap set.len leaves.detached in
      let live = ap map.len empty ∙ map.len-empty key_cmp V in
      let places = leaves.same_places in
      omega arith

  -- and there is room for as many keys
  pub room_again : Leaves old new → new.live ≡ map.empty → ((k : Key) → IsLive old k → is_last k ≡ false) → old.room + map.len old.live ≤ new.room
  room_again leaves empty not_last = omega (arith, leaves.room, vacant_again leaves empty not_last)

  -- once a key was removed that wasn't the last of its slot, this slot is vacant, and there is room for one key
  pub freed_one : (k : Key) → Removes old k new → is_last k ≡ false → HasVacant new × (0 < new.room)
  freed_one k removes not_last = (
    grind (arith, not_last, removes.next, map.get-insert {X = ℕ} nat_cmp_total old.next k.index (next_version k) k.index, map.empty_of_len new.next, map.get-empty {X = ℕ} nat_cmp k.index),
    grind (arith, not_last, removes.room),
  )

  module _ (k : Key) (v : V) where
    -- a new key takes at most one vacant slot
    pub vacant_less : Inserts old k v new → map.len old.next ≤ map.len new.next + 1
    vacant_less inserts = grind (arith, ap map.len inserts.next, map.len-remove nat_cmp_total old.next k.index)

    -- and adds at most one slot
    pub places_inserted : Inserts old k v new → places new ≤ places old + 1
    places_inserted inserts =
        let live = ap map.len inserts.live ∙ map.len-insert keys_total old.live k v in
        let detached = ap set.len inserts.detached in
        let retired = ap set.len inserts.retired in
        let next = ap map.len inserts.next ∙ map.len-remove nat_cmp_total old.next k.index in
        grind (arith, live, detached, retired, next)

    -- where no slot is vacant, a new key is the first of its slot, and not the last
    pub first_of_slot : {reuses : Bool} → IsContent reuses old → map.len old.next ≡ 0 → Inserts old k v new → is_last k ≡ false
    first_of_slot valid none inserts = elim (valid.offers inserts.below_limit) [
      | inl there ↦ absurd (let empty = ap (λ m. map.get m old.offer.index) (map.empty_of_len old.next none) in let nothing = map.get-empty {X = ℕ} nat_cmp old.offer.index in cc)
      | inr made ↦ (let version = made.2 in let offered = inserts.offered in grind arith)
    ]

module _ {V : Type 0} where
  -- no slot is vacant, and no live key is the last of its slot: as in a map that only had inserts
  pub record AllFirst (c : Content V) : Type 0 where
    pub none_vacant : map.len c.next ≡ 0
    pub none_last : (k : Key) → IsLive c k → is_last k ≡ false

  pub new_first : (c : Content V) → IsNew c → AllFirst c
  new_first c new = record {
    none_vacant = ap map.len new.next ∙ map.len-empty nat_cmp ℕ;
    none_last = λ k live. absurd (let there = ap (λ m. map.contains_key m k) new.live in let none = map.get-empty {X = V} key_cmp k in cc);
  }

  -- it stays so by an insert
  pub inserted_first : {reuses : Bool} (old new : Content V) (k : Key) (v : V) → IsContent reuses old → AllFirst old → Inserts old k v new → AllFirst new
  inserted_first old new k v valid all inserts =
      let first = first_of_slot old new k v valid all.none_vacant inserts in
      record {
        none_vacant = grind (arith, all.none_vacant, ap map.len inserts.next, map.len-remove nat_cmp_total old.next k.index);
        none_last = λ q live. grind (arith, inserts.live, map.get-insert keys_total old.live k v q, tied keys_total exact_keys q k, all.none_last q);
      }
