-- A list of slots with clones of the values of a map: it is the list of a copy.
-- For the crates of maps.
use Rattle.std.proofs.lemmas.Option.{same_Some}
use Rattle.std.proofs.Common.{◌≡◌, ◌-◌, refl, sym, ap, ◌∙◌, arith, ℕ, Bool, true, List, slice_get, Option, Some, is_some}
use Rattle.slotmap_core.specs.Words.{ClonesEqual, IsCloneOf, Content, IsContent, start_live, IsCloneBy, Key, Writes, WritesClones, IsRecordClone, AreRecordClones, filled_slot, empty_slot}
use Rattle.slotmap_core.specs.declared.serial.SlotRecord.{SlotRecord}
use Rattle.slotmap_core.proofs.Contents.CloneLemmas.{clone_places, clone_copies, IsContent-clone_same}
use Rattle.slotmap_core.proofs.General.ListLemmas.{zip_length, zip_left, zip_right}
use Rattle.slotmap_core.proofs.FromList.{AtKeysLemmas.live_in, AtKeysLemmas.in_contents, WrittenLemmas.written-contents}
use Rattle.slotmap_core.proofs.General.Maps.{some_is}
use Rattle.std.specs.FinMap as map

module _ {V : Type 0} (is_clone : V → V → Type 0) where
  -- a slot and a clone of it
  filled-clone : (version : ℕ) (v : V) (r : SlotRecord V) → IsRecordClone is_clone (filled_slot version v) r → (w : V) × (r ≡ filled_slot version w) × is_clone v w
  filled-clone version v r is = grind arith

module _ {V : Type 0} (is_clone : V → V → Type 0) (reuses : Bool) (c : Content V) (valid : IsContent reuses c)
    (slots : List (SlotRecord V)) (writes : Writes c slots) (copies : List (SlotRecord V)) (all : AreRecordClones is_clone slots copies) where
  -- the content of a map that has these clones
  abbrev copy : Content V
  copy = record c { live = start_live copies }

  clone_at : (i : ℕ) (slot : SlotRecord V) → slice_get slots i ≡ Some slot → (r : SlotRecord V) × (slice_get copies i ≡ Some r) × IsRecordClone is_clone slot r
  clone_at i slot found = zip_right (IsRecordClone is_clone) slots copies all i slot found

  empty_at : (i version : ℕ) → slice_get slots i ≡ Some (empty_slot version) → slice_get copies i ≡ Some (empty_slot version)
  empty_at i version found = grind (arith, clone_at i (empty_slot version))

  -- a live key has a clone of its value in the list
  live_clone : (k : Key) (v : V) → map.get c.live k ≡ Some v
      → (w : V) × (slice_get copies k.index ≡ Some (filled_slot k.version w)) × is_clone v w × (map.get (start_live copies) k ≡ Some w)
  live_clone k v got = grind (arith, clone_at, filled-clone, in_contents)

  -- the list has no other key
  no_other : (k : Key) (w : V) → map.get (start_live copies) k ≡ Some w → is_some (map.get c.live k) ≡ true
  no_other k w got = grind (arith, live_in, zip_left (IsRecordClone is_clone) slots copies all k.index, written-contents reuses c valid slots writes, in_contents slots k.index)

  value_clone : (k : Key) (o : Option V) → map.get c.live k ≡ o → IsCloneOf is_clone o (map.get (start_live copies) k)
  value_clone k o is = grind (arith, no_other, live_clone)

  clones : IsCloneBy is_clone c copy
  clones = grind (arith, value_clone)

  pub writes_clones : WritesClones is_clone reuses c copies
  writes_clones = record {
    copy = copy;
    clones = clones;
    valid = IsContent-clone_same is_clone c copy clones reuses valid refl refl;
    writes = record {
      all = omega (arith, zip_length (IsRecordClone is_clone) slots copies all, writes.all, clone_places is_clone c copy clones);
      first = empty_at 0 0 writes.first;
      live = λ k w got. (let had = some_is (map.get c.live k) (no_other k w got) in let there = live_clone k had.0 had.1 in
          there.1 ∙ ap (λ v. Some (filled_slot k.version v)) (same_Some _ _ (sym there.3 ∙ got)));
      vacant = λ i next got. empty_at i (next - 1) (writes.vacant i next got);
      detached = λ k is. empty_at k.index _ (writes.detached k is);
      retired = λ k is. empty_at k.index 0 (writes.retired k is);
      each = λ i from to. grind (arith, writes.each i from, clone_places is_clone c copy clones, no_other, live_clone, clones.live);
    };
  }

-- what is in such a list, and where clones equal their values
module _ {V : Type 0} (is_clone : V → V → Type 0) (reuses : Bool) (c : Content V) (slots : List (SlotRecord V)) (written : WritesClones is_clone reuses c slots) where
  pub clones_contents : (k : Key) → IsCloneOf is_clone (map.get c.live k) (map.get (start_live slots) k)
  clones_contents k = rw (written-contents reuses written.copy written.valid slots written.writes) (written.clones.live k)

  module _ (same : ClonesEqual is_clone) where
    pub equal_contents : start_live slots ≡ c.live
    equal_contents = written-contents reuses written.copy written.valid slots written.writes ∙ (clone_copies is_clone c written.copy written.clones same).live

    pub equal_writes : Writes c slots
    equal_writes = grind (arith, clone_places is_clone c written.copy written.clones)
