-- A copy of a scheduler: the same handles, times and places, each with a clone of its job.
use Rattle.std.proofs.Common.{◌∷◌, ◌≡◌, ◌≤◌}
use Rattle.slotmap_scheduler.proofs.Common.{AllZip, AreClones, Content, Entry, InOrder, IsCloneBy, IsCloneOf, IsContent, IsDueClone, IsInverse, IsSchedule, Job, Key, List, None, Option, Some, Timed}
use Rattle.slotmap_scheduler.proofs.Common.{Turn, Vec, [], arith, as_seen, by_turn, clone_len, content-mapped, len-mapped, list_map, mapped-clones, refl, spot_of, sym, timed, true, unplaced}
use Rattle.slotmap_scheduler.proofs.Common.{vec_capacity, vec_len, waiting_of, ℕ, ◌∙◌}
use Rattle.std.proofs.lemmas.Slice.Zip.{AllZip-long}
use Rattle.slotmap_scheduler.proofs.Sorted.{entries_alike, none_there}
use Rattle.slotmap_scheduler.proofs.Order.{exact_turns, inverse, turns_total}
use Rattle.std.specs.FinMap as map

module _ {A : Type 0} (is_clone : A → A → Type 0) where
  abbrev pub clones_job : Job A → Job A → Type 0
  clones_job job copy = is_clone job.job copy.job × (copy.turn ≡ job.turn) × (copy.place ≡ job.place)

  -- the same turn, or the same handle, with a clone of the job
  abbrev pub Clones : {B : Type 0} → B × A → B × A → Type 0
  Clones x y = (y.0 ≡ x.0) × is_clone x.1 y.1

  forth : {B : Type 0} (o p : Option (B × A)) → IsCloneOf Clones o p → (b : B) (x : A) → o ≡ Some (b, x) → (y : A) × (p ≡ Some (b, y)) × is_clone x y
  forth o p is b x at = grind arith

  back : {B : Type 0} (o p : Option (B × A)) → IsCloneOf Clones o p → (b : B) (y : A) → p ≡ Some (b, y) → (x : A) × (o ≡ Some (b, x)) × is_clone x y
  back o p is b y at = grind arith

  seen_clones : (es fs : List (Turn × (Key × A))) → AllZip (λ (e f : Turn × (Key × A)). (f.0 ≡ e.0) × Clones e.1 f.1) es fs
      → AreClones (IsDueClone is_clone) (list_map as_seen es) (list_map as_seen fs)
  seen_clones [] [] are = tt
  seen_clones [] (f ∷ fs) are = absurd are
  seen_clones (e ∷ es) [] are = absurd are
  seen_clones (e ∷ es) (f ∷ fs) are = grind (arith, seen_clones es fs)

  module _ (jobs copy : Timed A) (count : ℕ) (is : InOrder jobs count) (clones : (k : Key) → IsCloneOf Clones (map.get jobs k) (map.get copy k)) (len : map.len copy ≡ map.len jobs) where
    one_handle : (k q : Key) (t : Turn) (x y : A) → map.get copy k ≡ Some (t, x) → map.get copy q ≡ Some (t, y) → k ≡ q
    one_handle k q t x y at there = grind (arith, back (map.get jobs k) (map.get copy k) (clones k) t x at, back (map.get jobs q) (map.get copy q) (clones q) t y there)

    by : IsInverse (map.get copy) (map.get (by_turn copy))
    by = inverse copy one_handle

    turn_clones : (t : Turn) → IsCloneOf Clones (map.get (by_turn jobs) t) (map.get (by_turn copy) t)
    turn_clones t = elim (map.get (by_turn jobs) t) as (λ o. map.get (by_turn jobs) t ≡ o → IsCloneOf Clones o (map.get (by_turn copy) t)) [
      | None ↦ λ none. none_there _ (λ x there. grind (arith, back (map.get jobs x.0) (map.get copy x.0) (clones x.0), by.from t x.0 x.1, is.turns.to x.0 t))
      | Some x ↦ λ some. grind (arith, forth (map.get jobs x.0) (map.get copy x.0) (clones x.0), is.turns.from t x.0 x.1, by.to x.0 t)
    ] refl

    alike_turns : AllZip (λ (e f : Turn × (Key × A)). (f.0 ≡ e.0) × Clones e.1 f.1) (map.entries (by_turn jobs)) (map.entries (by_turn copy))
    alike_turns = entries_alike turns_total exact_turns Clones (by_turn jobs) (by_turn copy) turn_clones

    copied_order : InOrder copy count
    copied_order = record {
      turns = by;
      len = map.len-entries (by_turn copy) ∙ AllZip-long _ _ _ alike_turns ∙ sym (map.len-entries (by_turn jobs)) ∙ is.len ∙ sym len;
      numbered = λ k t y there. (let was = back (map.get jobs k) (map.get copy k) (clones k) t y there in is.numbered k t was.0 was.1);
    }

  module _ {Z : Type 0} (jobs copy : Content (Job A)) (clones : IsCloneBy clones_job jobs copy) (count : ℕ) (heap : Vec Entry Z) (is : IsSchedule jobs count heap) where
    pub timed_clones : IsCloneBy (Clones {B = Turn}) (timed jobs) (timed copy)
    timed_clones = mapped-clones unplaced clones_job Clones (λ v w both. (both.1, both.0)) jobs copy clones

    len_copied : map.len (timed copy).live ≡ map.len (timed jobs).live
    len_copied = clone_len Clones (timed jobs) (timed copy) timed_clones

    pub waiting_copied : AreClones (IsDueClone is_clone) (waiting_of (timed jobs).live) (waiting_of (timed copy).live)
    waiting_copied = seen_clones _ _ (alike_turns (timed jobs).live (timed copy).live count is.order timed_clones.live len_copied)

    same_spot : (q : Key) → spot_of copy.live q ≡ spot_of jobs.live q
    same_spot q = grind (arith, clones.live q)

    -- the copy is a scheduler, if its heap has a place for each slot that has none live or retired
    pub schedule_copied : (heap' : Vec Entry Z) → heap'.items ≡ heap.items → vec_len heap' ≡ vec_len heap → IsContent true copy
        → copy.capacity ≤ vec_capacity heap' → IsSchedule copy count heap'
    schedule_copied heap' items len well capacity =
        let order = copied_order (timed jobs).live (timed copy).live count is.order timed_clones.live len_copied in
        let valid = content-mapped unplaced copy true well in
        grind (arith, same_spot, is.indexed, items, len_copied, well.capacity_fits, well.reused, len-mapped unplaced copy.live)
