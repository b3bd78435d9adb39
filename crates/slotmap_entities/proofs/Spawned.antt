-- What stays live, what stays spent, and which index the key has, where an entity is spawned.
use Rattle.std.proofs.Common.{◌≡◌, ◌+◌, ◌<◌, ◌≤◌, Result, Ok, Err, IsOk, IfOk, OnOk, OnErr, Bool, false, None, inl, inr, is_some, refl, ap, arith}
use Rattle.slotmap.specs.Words.{Key, Content, IsContent, Inserts, IsLive, IsSpent, Keeps, KeepsSpent, most, places, used}
use Rattle.slotmap.proofs.Callers.{get-insert_here, inserted_fresh, inserted_not_spent, live-insert_still, none_of, spent_inserts, spent_keeps}
use Rattle.std.specs.FinMap as map
use Rattle.slotmap_entities.specs.World.{OnlyLive}
use Rattle.slotmap_entities.proofs.LiveOnly.{stale_bare}

-- the next key is at most one behind all slots, and within the limit
pub offer_index : {E : Type 0} (c : Content E) → IsContent false c → used c < most → (c.offer.index ≤ places c + 1) × (c.offer.index ≤ most)
offer_index c valid less = elim (valid.offers less) [
  | inl there ↦ (let within = (valid.vacant c.offer.index (ap is_some there)).1 in let limit = valid.limit in (omega arith, omega arith))
  | inr made ↦ (let none = made.0 in let at = made.1 in (omega arith, omega (arith, less)))
]

new_index : {E : Type 0} (old new : Content E) (entity : E) (k : Key) → IsContent false old → Inserts old k entity new → k.index ≤ places old + 1
new_index old new entity k valid inserts =
    let is = ap (λ (q : Key). q.index) inserts.offered in
    let low = (offer_index old valid inserts.below_limit).0 in
    omega (arith, is, low)

-- where there is room, the next key is within the limit
pub offered_index : {E : Type 0} (c : Content E) → IsContent false c → 0 < c.room → c.offer.index ≤ places c + 1
offered_index c valid room = (offer_index c valid (omega (arith, room, valid.room_fits))).0

-- an entity that is spawned after a call that keeps all
module _ {E : Type 0} (old mid new : Content E) (k : Key) (entity : E) where
  pub kept_still : Keeps old mid → Inserts mid k entity new → (q : Key) → IsLive old q → IsLive new q
  kept_still keeps adds q live = rw adds.live (live-insert_still mid.live k entity q (rw keeps.live live))

pub inserted_live : {E : Type 0} (old new : Content E) (k : Key) (entity : E) → Inserts old k entity new → IsLive new k
inserted_live old new k entity adds = rw adds.live (ap is_some (get-insert_here old.live k entity))

pub when_ok : {A B P : Type 0} (answer : Result A B) → IsOk answer → OnOk answer P → P
when_ok (Ok x) is p = p
when_ok (Err e) is p = absurd (cc)

module _ {E K R : Type 0} (old new : Content E) (data_of : K → Key) (entity : E) where
  pub spawned_still : (answer : Result K R) → IfOk answer (λ key. Inserts old (data_of key) entity new) → OnErr answer (Keeps old new)
      → (q : Key) → IsLive old q → IsLive new q
  spawned_still (Ok key) adds keeps q live = rw adds.live (live-insert_still old.live (data_of key) entity q live)
  spawned_still (Err e) adds keeps q live = rw keeps.live live

  pub spawned_spent : (answer : Result K R) → IsContent false old → IfOk answer (λ key. Inserts old (data_of key) entity new) → OnErr answer (Keeps old new)
      → KeepsSpent old new
  spawned_spent (Ok key) valid adds keeps = spent_inserts old new false valid (data_of key) entity adds
  spawned_spent (Err e) valid adds keeps = spent_keeps old new keeps

  pub spawned_index : (answer : Result K R) → IsContent false old → IfOk answer (λ key. Inserts old (data_of key) entity new)
      → IfOk answer (λ key. (data_of key).index ≤ places old + 1)
  spawned_index (Ok key) valid adds = new_index old new entity (data_of key) valid adds
  spawned_index (Err e) valid adds = tt

  -- a new entity had nothing before
  pub spawned_bare : (answer : Result K R) → IsContent false old → IfOk answer (λ key. Inserts old (data_of key) entity new)
      → (has : Key → Bool) → OnlyLive old has → IfOk answer (λ key. has (data_of key) ≡ false)
  spawned_bare (Ok key) valid adds has only = stale_bare old has only (data_of key) (inserted_fresh false old (data_of key) entity new valid adds)
  spawned_bare (Err e) valid adds has only = tt

  pub spawned_fresh : (answer : Result K R) → IsContent false old → IfOk answer (λ key. Inserts old (data_of key) entity new)
      → IfOk answer (λ key. map.get old.live (data_of key) ≡ None)
  spawned_fresh (Ok key) valid adds = none_of (map.get old.live (data_of key)) (inserted_fresh false old (data_of key) entity new valid adds)
  spawned_fresh (Err e) valid adds = tt

  pub spawned_unspent : (answer : Result K R) → IsContent false old → IfOk answer (λ key. Inserts old (data_of key) entity new)
      → IfOk answer (λ key. IsSpent old (data_of key) → ⊥)
  spawned_unspent (Ok key) valid adds = λ spent. inserted_not_spent old new false valid (data_of key) entity adds (data_of key) spent refl
  spawned_unspent (Err e) valid adds = tt
