-- A content with another room: what each call of the map does to it.
use Rattle.std.proofs.Common.{◌≡◌, ℕ, ◌+◌, ◌-◌, ◌<◌, ◌≤◌, ◌∙◌, true, List, Some, cond, if◌then◌else◌, is_some, inl, sym}
use Rattle.std.proofs.Common.{ap, arith}
use Rattle.std.specs.{Ordering.nat_cmp, Cmp.nat_cmp_total}
use Rattle.slotmap.specs.Words.{Key, key_cmp, Content, IsContent, IsLive, IsNew, Inserts, Removes, MakesRoom, StaysValid, IsCloneBy, is_last, used, with_value}
use Rattle.slotmap.proofs.Callers.{clone_len, inserted_len, get-insert_here, leaves_by_removal, len_removed, keys_total, exact_keys}
use Rattle.slotmap_bounded.proofs.{Alone.alone-written, Alone.same_live, Shown.shown_content}
use Rattle.slotmap_bounded.specs.Bounded.{IsBounded, bound, bounded}
use Rattle.std.specs.FinMap as map
use Rattle.std.specs.FinSet as set

module _ {V : Type 0} {c : Content V} {room capacity : ℕ} (is : IsBounded c room capacity) where
  pub bounded_valid : IsContent true (bounded c room)
  bounded_valid = let well = is.valid in let lists = λ (stack : List ℕ) (at : c.stack ≡ Some stack). (well.stacked stack at).lists in
      let once = λ (stack : List ℕ) (at : c.stack ≡ Some stack). (well.stacked stack at).once in let top = λ (stack : List ℕ) (at : c.stack ≡ Some stack). (well.stacked stack at).top in
      grind (arith, lists, once, top)

module _ {V : Type 0} {c : Content V} {room capacity : ℕ} (is : IsBounded c room capacity) where
  -- a value is written
  pub written : (k : Key) → IsLive c k → (v : V) → IsBounded (with_value c k v) room capacity
  written k live v =
      let len : map.len (map.insert c.live k v) ≡ map.len c.live = map.len-insert keys_total c.live k v ∙ ap (λ b. cond b (map.len c.live) (map.len c.live + 1)) live in
      let valid = shown_content c (map.insert c.live k v) (same_live c (with_value c k v) (alone-written c k v live)) len true is.valid in
      record { valid = valid; vacant = is.vacant; fits = is.fits; exact = (omega (arith, is.exact)) }

  -- a value comes
  module _ {k : Key} {v : V} {new : Content V} (inserts : Inserts c k v new) where
    used_more : used new ≡ used c + 1
    used_more = omega (arith, inserted_len true c k v new is.valid inserts, ap set.len inserts.detached, ap set.len inserts.retired)

    vacant_less : 0 < room → map.len new.next ≤ room - 1
    vacant_less some =
        let next = ap map.len inserts.next ∙ map.len-remove nat_cmp_total c.next k.index in let offers = is.valid.offers inserts.below_limit in grind (arith, is.vacant, inserts.offered)

    pub inserted : 0 < room → IsContent true new → IsBounded new (room - 1) capacity
    inserted some valid = grind (arith, vacant_less some, used_more)

    pub inserts_bounded : 0 < room → Inserts (bounded c room) k v (bounded new (room - 1))
    inserts_bounded some = grind arith

    pub index_within : 0 < room → IsContent true new → k.index ≤ bound (bounded new (room - 1))
    index_within some valid = let there : IsLive new k = ap (λ m. map.contains_key m k) inserts.live ∙ ap is_some (get-insert_here c.live k v) in let now = inserted some valid in
        omega (arith, (valid.within k (inl (inl there))).1, now.vacant)

  -- a value goes
  module _ {k : Key} (live : IsLive c k) {new : Content V} (removes : Removes c k new) (valid : IsContent true new) where
    pub removed : IsBounded new (room + (if is_last k then 0 else 1)) capacity
    removed =
        let detached = ap set.len removes.detached in
        let retired = ap set.len removes.retired in
        let next = ap map.len removes.next in
        let less = ap map.len removes.live in
        let len = len_removed keys_total exact_keys c.live k live in
        let same = (leaves_by_removal true c is.valid k live new removes).same_places in
        grind (arith, removes.room)

    pub removes_bounded : Removes (bounded c room) k (bounded new (room + (if is_last k then 0 else 1)))
    removes_bounded = record { live = removes.live; detached = removes.detached; retired = removes.retired; next = removes.next; stack = removes.stack; room = omega arith }

  -- room is there, is made, or can't be made
  pub had_room : (n : ℕ) (ok : Type 0) → ok → n ≤ room → MakesRoom true (bounded c room) n ok (bounded c room)
  had_room n ok done more = let valid = bounded_valid is in grind arith

  pub none_made : (n : ℕ) (ok : Type 0) → (ok → ⊥) → room < n → MakesRoom true (bounded c room) n ok (bounded c room)
  none_made n ok failed less = let valid = bounded_valid is in grind arith

  module _ {n : ℕ} {ok : Type 0} {new : Content V} (makes : MakesRoom true c n ok new) {asked : ℕ} (enough : asked ≤ n) (less : room < asked) where
    same_used : used new ≡ used c
    same_used = omega (arith, ap map.len makes.keeps.live, ap set.len makes.keeps.detached, ap set.len makes.keeps.retired)

    pub made : ok → IsBounded new n (capacity - room + n)
    made done = let next = ap map.len makes.keeps.next in let same = same_used in grind (arith, makes.room)

    refused : IsBounded new room capacity
    refused = let next = ap map.len makes.keeps.next in let same = same_used in grind arith

    pub refused_same : bounded new room ≡ record (bounded c room) { capacity = new.capacity }
    refused_same = let keeps = makes.keeps in cc

    pub made_room : ok → (fine : Type 0) → fine → MakesRoom true (bounded c room) asked fine (bounded new n)
    made_room done fine is_fine = let before = bounded_valid is in let after = bounded_valid (made done) in grind (arith, makes.fits)

    pub refused_room : (fine : Type 0) → (fine → ⊥) → MakesRoom true (bounded c room) asked fine (bounded new room)
    refused_room fine failed = let before = bounded_valid is in let after = bounded_valid refused in grind arith

-- the bound stays, and the capacity where that of the map does
module _ {V : Type 0} {c new : Content V} {room now capacity : ℕ} (was : IsBounded c room capacity) (is : IsBounded new now capacity) where
  pub stays : new.capacity ≡ c.capacity → StaysValid true (bounded c room) (bounded new now)
  stays same = record { before = bounded_valid was; after = bounded_valid is; capacity = same }

  pub bound_stays : bound (bounded new now) ≡ bound (bounded c room)
  bound_stays = is.exact ∙ sym was.exact

-- nothing was inserted yet
pub starts : {V : Type 0} (c : Content V) (room : ℕ) → IsNew c → IsContent true c → room ≤ c.room → IsBounded c room room
starts {V} c room new valid fits =
    let live = ap map.len new.live ∙ map.len-empty key_cmp V in
    let detached = ap set.len new.detached ∙ set.len-empty key_cmp in
    let retired = ap set.len new.retired ∙ set.len-empty key_cmp in
    let next = ap map.len new.next ∙ map.len-empty nat_cmp ℕ in
    record { valid = valid; vacant = omega arith; fits = fits; exact = omega arith }

-- a copy, where room was made as in the map that was copied
module _ {V : Type 0} {c : Content V} {room capacity : ℕ} (is : IsBounded c room capacity) {is_clone : V → V → Type 0} {mid : Content V}
    (clones : IsCloneBy is_clone c mid) {ok : Type 0} {new : Content V} (makes : MakesRoom true mid room ok new) where
  pub copied : ok → IsBounded new room capacity
  copied done =
      let live = clone_len is_clone c mid clones in
      let same = ap map.len makes.keeps.live in
      let detached = ap set.len (makes.keeps.detached ∙ clones.detached) in
      let retired = ap set.len (makes.keeps.retired ∙ clones.retired) in
      let next = ap map.len (makes.keeps.next ∙ clones.next) in
      grind (arith, makes.room)

  pub copied_clones : IsCloneBy is_clone (bounded c room) (bounded new room)
  copied_clones = grind (arith, clones.live)
