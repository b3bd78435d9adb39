-- Which keys were live or detached before a call, and which vacant indices it leaves.
-- For runs.
use Rattle.std.proofs.Common.{◌≡◌, ◌≢◌, ◌⊎◌, inl, inr, sym, ⊎_elim, arith, ℕ, Some}
use Rattle.slotmap_core.specs.Words.{Key, next_version, Content, Stands, IsLive, IsNew, Inserts, Keeps, Removes, Replaces, Leaves, Detaches, Reattaches}
use Rattle.slotmap_core.proofs.General.Maps.{of_and, get_after_remove, in_after_insert, in_after_remove, item_after_insert, item_after_remove}
use Rattle.slotmap_core.proofs.General.KeyLemmas.{keys_total, exact_keys, nat_cmp_total, exact_unsigned}
use Rattle.slotmap_core.proofs.Contents.Retired.{in_freed}
use Rattle.std.specs.FinMap as map
use Rattle.std.specs.FinSet as set

module _ {V : Type 0} (old new : Content V) where
  -- each vacant index was vacant before with the same version, or follows a live key
  abbrev pub Vacates : Type 0
  Vacates = (i v : ℕ) → map.get new.next i ≡ Some v → ((k : Key) × IsLive old k × (k.index ≡ i) × (next_version k ≡ v)) ⊎ (map.get old.next i ≡ Some v)

  pub same_vacant : new.next ≡ old.next → Vacates
  same_vacant e i v h = inr (rw (← e) h)

  module _ (k : Key) (v : V) (i : Inserts old k v new) where
    pub inserted_stands : (q : Key) → Stands new q → (q ≡ k) ⊎ Stands old q
    inserted_stands q h = grind (arith, i.live, i.detached, in_after_insert keys_total exact_keys old.live k v q)

    pub inserted_vacant : (j w : ℕ) → map.get new.next j ≡ Some w → (j ≢ k.index) × (map.get old.next j ≡ Some w)
    inserted_vacant j w h = get_after_remove nat_cmp_total exact_unsigned old.next k.index j w (rw (← i.next) h)

  pub kept_stands : Keeps old new → (q : Key) → Stands new q → Stands old q
  kept_stands k q h = grind (arith, k.live, k.detached)

  pub replaced_stands : (k : Key) (v : V) → IsLive old k → Replaces old k v new → (q : Key) → Stands new q → Stands old q
  replaced_stands k v is_live r q h = grind (arith, in_after_insert keys_total exact_keys old.live k v q)

  pub detached_stands : (k : Key) → IsLive old k → Detaches old k new → (q : Key) → Stands new q → Stands old q
  detached_stands k is_live r q h = grind (arith, in_after_remove keys_total exact_keys old.live k q, item_after_insert keys_total exact_keys old.detached k q)

  pub reattached_stands : (k : Key) (v : V) → Reattaches old k v new → (q : Key) → Stands new q → Stands old q
  reattached_stands k v r q h = grind (arith, in_after_insert keys_total exact_keys old.live k v q, item_after_remove keys_total exact_keys old.detached k q)

  pub removed_stands : (k : Key) → Removes old k new → (q : Key) → Stands new q → Stands old q
  removed_stands k r q h = grind (arith, r.live, r.detached, in_after_remove keys_total exact_keys old.live k q)

  pub removed_vacant : (k : Key) → IsLive old k → Removes old k new → Vacates
  removed_vacant k is_live r i v h = ⊎_elim (λ p. inl (k, is_live, sym p.0, sym p.1)) (λ g. inr g) (in_freed k old.next i v (rw (← r.next) h))

  pub left_stands : Leaves old new → (q : Key) → Stands new q → Stands old q
  left_stands l q h = grind (arith, l.no_more q, l.detached)

  pub left_vacant : Leaves old new → Vacates
  left_vacant l i v h = ⊎_elim (λ g. inr g) (λ p. inl (p.0, (of_and _ _ p.1).0, p.3, p.4)) ((l.next i v).0 h)

-- no key is live or detached in a new content
pub new_stands : {V : Type 0} (c : Content V) → IsNew c → (k : Key) → Stands c k → ⊥
new_stands c new k stands = grind (arith, map.get-empty, set.contains-empty)
