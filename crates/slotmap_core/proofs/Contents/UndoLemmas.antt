-- Calls after which a map holds what it held before.
-- For the crates of maps and callers.
use Rattle.std.proofs.Common.{◌≡◌, ◌<◌, Bool, false, arith}
use Rattle.slotmap_core.specs.Words.{Key, key_cmp, Content, IsContent, IsLive, Uses, used, most, Inserts, Removes, Detaches, Reattaches}
use Rattle.slotmap_core.proofs.General.{ListingLemmas.insert-remove, ListingLemmas.remove-insert, MapLaws.remove_absent}
use Rattle.slotmap_core.proofs.General.KeyLemmas.{keys_total, exact_keys, tied}
use Rattle.std.specs.FinMap as map
use Rattle.std.specs.FinSet as set

pub remove-insert_item : (s : set.FinSet key_cmp) (k : Key) → set.contains s k ≡ false → set.remove (set.insert s k) k ≡ s
remove-insert_item s k none = set.same_set keys_total exact_keys _ _ (λ q. grind (arith, set.contains-remove keys_total, set.contains-insert keys_total, tied keys_total exact_keys q k))

module _ {V : Type 0} {reuses : Bool} (old : Content V) (well : IsContent reuses old) where
  -- the key that the next insert returns has no place yet
  pub offer_unused : used old < most → Uses old old.offer → ⊥
  offer_unused below uses = grind arith

  module _ (mid new : Content V) (k : Key) (v : V) where
    -- a key that is inserted and removed again
    pub live_removed_again : Inserts old k v mid → Removes mid k new → new.live ≡ old.live
    live_removed_again inserts removes = grind (arith, remove-insert, remove_absent keys_total exact_keys old.live k)

    -- a key that is detached and bound to a value again
    pub live_bound_again : Detaches old k mid → Reattaches mid k v new → new.live ≡ map.insert old.live k v
    live_bound_again detaches binds = grind (arith, insert-remove old.live k v)

    pub detached_bound_again : IsLive old k → Detaches old k mid → Reattaches mid k v new → new.detached ≡ old.detached
    detached_bound_again is_live detaches binds = grind (arith, remove-insert_item)
