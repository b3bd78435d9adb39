-- What a call that changes one slot leaves. It allocates nothing.
use Rattle.std.proofs.Common.{◌≡◌, ◌≢◌, ◌+◌, ◌-◌, ◌<◌, ◌≤◌, ◌^◌, ◌%◌, ◌∷◌, ◌++◌, ◌∙◌, nat_eq, sym, true, false, List, length, Some, refl, arith}
use Rattle.std.proofs.Common.{ℕ, [], set}
use Rattle.slotmap_core.proofs.Common.{Content, IsLive, IsDetached, last_version, Inserts, Removes, Detaches, Reattaches, StaysValid, content_of_places, length-set, length_push, same_Some, Key}
use Rattle.slotmap_slots.specs.Slot.{Slot, full, empty, Free, Detached, Retired, version_at, next_at, IsSound, vacancies, IsSettled, map_of}
use Rattle.slotmap_slots.proofs.SlotLemmas.{Present, used_places-slots, freed, removes-freed, retired, removes-retired, detached, detaches-slots, reattached, reattaches-slots}
use Rattle.slotmap_slots.proofs.SlotGrowth.{IsSound-pushed, inserts-pushed, none_free, some_free, top, top_read, top_next, filled_top, inserts-filled}
use Rattle.slotmap_slots.proofs.SettledLemmas.{settled_stays, settled_room, settled_present, settled_positive, settled_aside, aside_positive}

-- these slots hold what a call makes of what was held
pub record Changed {P : Type 0} (now : Content P) (Becomes : Content P → Type 0) (slots : List (Slot P)) (fits head aside used_count : ℕ) : Type 0 where
  pub settled : IsSettled slots fits head aside used_count
  pub becomes : Becomes (content_of_places (map_of slots head (vacancies slots used_count) (fits - 1)))
  pub valid : StaysValid true now (content_of_places (map_of slots head (vacancies slots used_count) (fits - 1)))

module _ {P : Type 0} {slots : List (Slot P)} {fits head aside used_count : ℕ} (settled : IsSettled slots fits head aside used_count) {now : Content P}
    (view : content_of_places (map_of slots head (vacancies slots used_count) (fits - 1)) ≡ now) where
  changed : (Becomes : Content P → Type 0) (after : List (Slot P)) (head2 free2 aside2 used_count2 live2 : ℕ) → IsSound after head2 free2 live2
      → live2 + aside2 ≡ used_count2 → used_count2 + free2 + 1 ≡ length after → length after ≤ fits
      → Becomes (content_of_places (map_of after head2 free2 (fits - 1))) → Changed now Becomes after fits head2 aside2 used_count2
  changed Becomes after head2 free2 aside2 used_count2 live2 sound parts all holds becomes =
      let free : vacancies after used_count2 ≡ free2 = omega (arith, all) in
      let live : used_count2 - aside2 ≡ live2 = omega (arith, parts) in
      let settled2 : IsSettled after fits head2 aside2 used_count2 = record { sound = rw (free, live) sound; among = omega (arith, parts); fewer = omega (arith, all); holds = holds } in
      let valid = settled_stays slots fits head aside used_count settled view after fits head2 aside2 used_count2 settled2 refl in
      record { settled = settled2; becomes = rw free becomes; valid = valid }

  -- the next key is bound to a payload, in a new slot
  pub filled_new : head ≡ 0 → 0 < now.room → (p : P) → Changed now (Inserts now now.offer p) (slots ++ full 1 p ∷ []) fits head aside (used_count + 1)
  filled_new none room p =
      let at = settled_room settled view room in
      let longer = length_push slots (full 1 p) in
      let gone : vacancies slots used_count ≡ 0 = none_free settled.sound none in
      let sound = IsSound-pushed settled.sound p (omega (arith, at.0, gone, used_places-slots settled.sound)) in
      changed _ _ head (vacancies slots used_count) aside (used_count + 1) _ sound (omega (arith, settled.among)) (omega (arith, longer, settled.fewer)) (omega (arith, longer, at.1, gone))
      (rw (← view) (inserts-pushed settled.sound p (fits - 1) at.0 gone))

  -- or in the first one of the free list
  pub filled_first : (other : head ≢ 0) → 0 < now.room → (v n : ℕ) → version_at slots head ≡ Some v → next_at slots head ≡ Some n → (p : P)
      → Changed now (Inserts now now.offer p) (set slots head (full (v + 1) p)) fits n aside (used_count + 1)
  filled_first other room v n read named p =
      let t = top settled.sound other in
      let long = length-set slots head (full (t.version + 1) p) in
      let some = some_free settled.sound other in
      rw (top_read t read, same_Some n t.next (sym named ∙ top_next t))
      (changed (Inserts now now.offer p) _ t.next (vacancies slots used_count - 1) aside (used_count + 1) _ (filled_top t p).sound (omega (arith, settled.among))
      (omega (arith, long, settled.fewer, some)) (omega (arith, long, settled.holds))
      (rw (← view) (inserts-filled t p (fits - 1) (settled_room settled view room).0)))

  module _ (k : Key) (is_live : IsLive now k) where
    there : Present settled.sound k
    there = settled_present settled view k is_live

    positive : 1 ≤ used_count - aside
    positive = settled_positive settled view k is_live

    -- a key is removed, and its slot retired
    pub removed_last : nat_eq k.version last_version ≡ true
        → Changed now (Removes now k) (set slots k.index (empty 0 Retired)) fits head (aside + 1) used_count
    removed_last last =
        let long = length-set slots k.index (empty 0 Retired) in
        let sound = (retired settled.sound _ _ _ there.there last).sound in
        changed _ _ head (vacancies slots used_count) (aside + 1) used_count _ sound (omega (arith, settled.among, positive)) (omega (arith, long, settled.fewer)) (omega (arith, long, settled.holds))
        (rw (← view) (removes-retired settled.sound _ _ _ there.there last (fits - 1) (omega (arith, settled.fewer, settled.holds))))

    -- or freed
    pub removed_other : nat_eq k.version last_version ≡ false
        → Changed now (Removes now k) (set slots k.index (empty (k.version + 1) (Free head))) fits k.index aside (used_count - 1)
    removed_other other =
        let long = length-set slots k.index (empty (k.version + 1) (Free head)) in
        let sound = (freed settled.sound _ _ _ there.there other).sound in
        changed _ _ k.index (vacancies slots used_count + 1) aside (used_count - 1) _ sound (omega (arith, settled.among, positive))
        (omega (arith, long, settled.fewer, positive)) (omega (arith, long, settled.holds))
        (rw (← view) (removes-freed settled.sound _ _ _ there.there other (fits - 1) (omega (arith, settled.fewer, settled.holds))))

    -- or kept for the key
    pub detached_now : Changed now (Detaches now k) (set slots k.index (empty ((k.version + 1) % 2 ^ 32) Detached)) fits head (aside + 1) used_count
    detached_now =
        let long = length-set slots k.index (empty ((k.version + 1) % 2 ^ 32) Detached) in
        let sound = (detached settled.sound _ _ _ there.there).sound in
        changed _ _ head (vacancies slots used_count) (aside + 1) used_count _ sound (omega (arith, settled.among, positive)) (omega (arith, long, settled.fewer)) (omega (arith, long, settled.holds))
        (rw (← view) (detaches-slots settled.sound _ _ _ there.there (fits - 1)))

  -- a detached key is bound to a payload again
  pub reattached_now : (k : Key) → IsDetached now k → (p : P)
      → Changed now (Reattaches now k p) (set slots k.index (full k.version p)) fits head (aside - 1) used_count
  reattached_now k out p =
      let found = settled_aside settled view k out in
      let long = length-set slots k.index (full k.version p) in
      let sound = (reattached settled.sound _ _ _ found.there found.before p).sound in
      changed _ _ head (vacancies slots used_count) (aside - 1) used_count _ sound (omega (arith, settled.among, aside_positive settled view k out p)) (omega (arith, long, settled.fewer))
      (omega (arith, long, settled.holds)) (rw (← view) (reattaches-slots settled.sound _ _ _ found.there found.before p (fits - 1)))
