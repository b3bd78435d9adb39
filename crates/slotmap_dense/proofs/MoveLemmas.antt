-- What a dense map holds after each call that changes it.
use Rattle.std.specs.FinMap as map
use Rattle.std.proofs.Common.{◌≡◌, ◌<◌, ◌≤◌, ◌∷◌, ◌++◌, swap_remove, ℕ, Bool, true, List, [], length, Some, None, inl, arith}
use Rattle.slotmap_core.proofs.Common.{Key, IsKey, Content, IsContent, IsDetached, Inserts, Removes, Detaches, Reattaches, length_push, slice_get_within, common_steps, offer_unused, none_of, false_of}
use Rattle.slotmap_core.proofs.Common.{used, most}
use Rattle.slotmap_dense.specs.Packed.{IsPacked, IsSound, live_of, dense_of}
use Rattle.slotmap_dense.proofs.{SwapRemoveLemmas.length-swap_remove, WellFormed.same_keys}
use Rattle.slotmap_dense.proofs.PackedLemmas.{live-push, rest-closed, IsPacked-push}

-- if the map isn't full, the offer is a key
pub offer_key : {reuses : Bool} {V : Type 0} (c : Content V) → IsContent reuses c → used c < most → IsKey c.offer
offer_key c well below = grind (arith, well.offers below, well.vacancies c.offer.index c.offer.version, well.limit)

-- a new key isn't live, and a detached key isn't either
pub new_not_live : {V : Type 0} (c d : Content V) (k : Key) (v : V) → IsContent true c → Inserts c k v d → map.get c.live k ≡ None
new_not_live c d k v well ins = rw ins.offered (none_of (map.get c.live c.offer) (false_of (map.contains_key c.live c.offer) (λ there. offer_unused c well ins.below_limit (inl (inl there)))))

pub kept_not_live : {reuses : Bool} {V : Type 0} (c : Content V) (k : Key) → IsContent reuses c → IsDetached c k → map.get c.live k ≡ None
kept_not_live c k well kept = none_of (map.get c.live k) (false_of (map.contains_key c.live k) (λ there. well.not_live_and_detached k there kept))

-- k is appended to the list, at the position that the slots have for it
module _ {V : Type 0} (slots : Content ℕ) (keys : List Key) (values : List V) (sound : IsSound slots keys values) (new : Content ℕ) (k : Key) (v : V) (none : map.get slots.live k ≡ None) where
  pub IsSound-appended : new.live ≡ map.insert slots.live k (length keys) → IsContent true new → IsSound new (keys ++ k ∷ []) (values ++ v ∷ [])
  IsSound-appended live well = grind (arith, IsPacked-push, length_push)

  module _ (before after : ℕ) (more : before ≤ after) where
    pub inserts-dense : Inserts slots k (length keys) new → Inserts (dense_of slots keys values before).content k v (dense_of new (keys ++ k ∷ []) (values ++ v ∷ []) after).content
    inserts-dense ins = search (arith, (same_keys slots keys values sound).all, live-push slots.live keys sound.packed values sound.same_length k v none, length_push keys k)

    pub reattaches-dense : Reattaches slots k (length keys) new → Reattaches (dense_of slots keys values before).content k v (dense_of new (keys ++ k ∷ []) (values ++ v ∷ []) after).content
    reattaches-dense rea = search (arith, live-push slots.live keys sound.packed values sound.same_length k v none, length_push keys k)

-- a key is removed, and the last pair moves into the gap
module _ {V : Type 0} (slots : Content ℕ) (keys : List Key) (values : List V) (sound : IsSound slots keys values) (left new : Content ℕ) (k : Key)
    (v : V) (i : ℕ) (at : map.get slots.live k ≡ Some i) (closed : IsPacked new.live (swap_remove keys i k)) where
  inside : i < length keys
  inside = slice_get_within keys i k (sound.packed.stands k i at)

  live-left : live_of (swap_remove keys i k) (swap_remove values i v) ≡ map.remove (live_of keys values) k
  live-left = rest-closed slots.live new.live keys values sound.packed sound.same_length k v i at closed 0 (omega arith)

  pub IsSound-closed : IsContent true new → IsSound new (swap_remove keys i k) (swap_remove values i v)
  IsSound-closed well = grind (arith, inside, length-swap_remove)

  -- where there is memory for the pairs that there are
  pub removes-dense : (spare : ℕ) → length keys ≤ spare → Removes slots k left → new ≡ record left { live = new.live }
      → Removes (dense_of slots keys values spare).content k (dense_of new (swap_remove keys i k) (swap_remove values i v) spare).content
  removes-dense spare fits rem rest = grind (arith, live-left, length-swap_remove keys i k inside)

  pub detaches-dense : (spare : ℕ) → Detaches slots k left → new ≡ record left { live = new.live }
      → Detaches (dense_of slots keys values spare).content k (dense_of new (swap_remove keys i k) (swap_remove values i v) spare).content
  detaches-dense spare det rest = grind (arith, live-left, length-swap_remove keys i k inside)

-- the last element is removed
pub swap_remove_last : {X : Type 0} (xs : List X) (x : X) (n : ℕ) → length xs ≡ n → swap_remove (xs ++ x ∷ []) n x ≡ xs
swap_remove_last xs x n long = grind (arith, common_steps)
