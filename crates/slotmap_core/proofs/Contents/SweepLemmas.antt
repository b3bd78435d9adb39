-- An iteration by ascending index that removes keys.
-- For the crates of maps.
use Rattle.std.proofs.Common.{◌≡◌, ◌≢◌, ℕ, ◌+◌, ◌<◌, ◌≤◌, Bool, true, Some, is_some, ◌∷◌, refl, sym, ap, ◌∙◌, arith}
use Rattle.slotmap_core.specs.Words.{Key, Content, IsContent, IsLive, Removes, Leaves, EmptiesByIndex, has_left, with_value, FreesByIndex, NoneBelow}
use Rattle.slotmap_core.proofs.Contents.IndexLemmas.{from_index, get_from, in_from, from_index-jump, from_index-take, alone_at, NoneBelow-removed}
use Rattle.slotmap_core.proofs.Contents.LeaveLemmas.{live-removed_at, same_live, Leaves-refl, Leaves-trans, Leaves-with_value, Leaves-removes, Leaves-removed}
use Rattle.slotmap_core.proofs.Contents.OrderLemmas.{FreesByIndex-start, FreesByIndex-with_value, FreesByIndex-removed, FreesByIndex-first, entries_first}
use Rattle.slotmap_core.proofs.General.KeyLemmas.{keys_total, exact_keys, tied}
use Rattle.slotmap_core.proofs.General.Maps.{in_after_remove}
use Rattle.slotmap_core.proofs.Contents.ContentLemmas.{IsContent-with_value}
use Rattle.std.specs.FinMap as map

module _ {V : Type 0} where
  -- on the way to now, keys below the index were removed, by ascending index
  pub record Swept (reuses : Bool) (old now : Content V) (i : ℕ) : Type 0 where
    pub leaves : Leaves old now
    pub order : FreesByIndex old now
    pub capacity : now.capacity ≡ old.capacity
    pub well : IsContent reuses now
    pub below : (q : Key) → has_left old now q ≡ true → q.index < i

  pub Swept-start : {reuses : Bool} (c : Content V) (i : ℕ) → IsContent reuses c → Swept reuses c c i
  Swept-start c i well = grind (arith, Leaves-refl c, FreesByIndex-start c)

  pub Swept-on : {reuses : Bool} (old now : Content V) (i : ℕ) → Swept reuses old now i → Swept reuses old now (i + 1)
  Swept-on old now i swept = record { leaves = swept.leaves; order = swept.order; capacity = swept.capacity; well = swept.well; below = λ q left. omega (arith, swept.below q left) }

  -- to a later index
  pub Swept-to : {reuses : Bool} (old now : Content V) (i j : ℕ) → Swept reuses old now i → i ≤ j → Swept reuses old now j
  Swept-to old now i j swept on = record { leaves = swept.leaves; order = swept.order; capacity = swept.capacity; well = swept.well; below = λ q left. omega (arith, swept.below q left) }

  -- the value of the next key is written
  pub Swept-next : {reuses : Bool} (old now : Content V) (i : ℕ) (k : Key) (w : V) → Swept reuses old now i → IsLive now k → i ≤ k.index
      → Swept reuses old (with_value now k w) k.index
  Swept-next {reuses} old now i k w swept is_live on =
      let leaves = Leaves-trans old now (with_value now k w) swept.leaves (Leaves-with_value now k w is_live) in
      grind (arith, leaves, FreesByIndex-with_value, IsContent-with_value reuses now swept.well k is_live w, same_live)

  -- the key at the index is removed
  pub Swept-removed : {reuses : Bool} (old now new : Content V) (i : ℕ) (k : Key) → Swept reuses old now i → IsLive now k → k.index ≡ i
      → Removes now k new → new.capacity ≡ now.capacity → IsContent reuses new → Swept reuses old new (i + 1)
  Swept-removed {reuses} old now new i k swept is_live at removes capacity well =
      grind (arith, (Leaves-removed reuses now swept.well k is_live new removes old swept.leaves), FreesByIndex-removed, live-removed_at now new k removes, tied keys_total exact_keys)

  -- what the rest ends as once the first key is removed, the whole ends as
  pub Empties-first : {reuses : Bool} (a b end : Content V) (k : Key) → IsContent reuses a → IsLive a k → Removes a k b → b.capacity ≡ a.capacity
      → ((q : Key) → IsLive b q → k.index < q.index) → EmptiesByIndex b end → EmptiesByIndex a end
  Empties-first {reuses} a b end k well is_live removes capacity above ends =
      grind (arith, Leaves-trans a b end (Leaves-removes reuses a well k is_live b removes) ends.empties.leaves, FreesByIndex-first)

  -- the live key of the smallest index from i on
  abbrev pub IsNextLive : Content V → ℕ → Key → Type 0
  IsNextLive c i k = (q : Key) → IsLive c q → i ≤ q.index → k.index ≤ q.index

  module _ {reuses : Bool} (c : Content V) (well : IsContent reuses c) (i : ℕ) (k : Key) (next : IsNextLive c i k) where
    before_others : IsLive c k → (q : Key) → q ≢ k → IsLive c q → i ≤ q.index → k.index < q.index
    before_others is_live q other there from = grind arith

    -- its entry is the first, if no live key is below i
    pub first_entry : (v : V) → NoneBelow c.live i → map.get c.live k ≡ Some v → map.entries c.live ≡ (k, v) ∷ map.entries (map.remove c.live k)
    first_entry v above found = grind (arith, entries_first, in_after_remove keys_total exact_keys c.live k, before_others)

    -- and the first of those from i on
    pub next_entry : (v : V) → i ≤ k.index → map.get c.live k ≡ Some v → map.entries (from_index i c.live) ≡ (k, v) ∷ map.entries (from_index (k.index + 1) c.live)
    next_entry v from found =
        let m = from_index i c.live in
        let rest : map.remove m k ≡ from_index (k.index + 1) c.live = ap (λ n. map.remove n k) (sym (from_index-jump i k.index c.live from next))
        ∙ sym (from_index-take k.index c.live k refl (alone_at c well k k.index (ap is_some found) refl)) in
        entries_first m k v (get_from i c.live k from ∙ found)
        (λ q there. let both = in_after_remove keys_total exact_keys m k q there in let here = in_from i c.live q both.1 in before_others
        (ap is_some found) q both.0 here.1 here.0)
        ∙ ap (λ n. (k, v) ∷ map.entries n) rest

    -- once it is removed, no live key is below the index after its own
    pub above_next : IsLive c k → NoneBelow c.live i → NoneBelow (map.remove c.live k) (k.index + 1)
    above_next is_live above = NoneBelow-removed c.live k.index k (alone_at c well k k.index is_live refl) (λ q there. next q there (above q there))
