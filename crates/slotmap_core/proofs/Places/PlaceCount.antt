-- How the number of places changes.
-- For the crates of maps and runs.
use Rattle.std.proofs.Common.{◌≡◌, ◌≢◌, ◌+◌, ◌<◌, max, Some, Bool, ◌⊎◌, ap, arith}
use Rattle.std.proofs.lemmas.Grind.{common_steps}
use Rattle.slotmap_core.specs.Words.{Key, Content, IsContent, Stands, IsLive, used, places, most, Inserts, Keeps, Removes, Replaces, Detaches, Reattaches}
use Rattle.slotmap_core.proofs.General.Maps.{false_of, len_inserted, len_removed, len_item_inserted, len_item_removed}
use Rattle.slotmap_core.proofs.General.KeyLemmas.{keys_total, exact_keys, nat_cmp_total}
use Rattle.slotmap_core.proofs.Contents.Retired.{len_retired_freed}
use Rattle.std.specs.FinMap as map
use Rattle.std.specs.FinSet as set

module _ {V : Type 0} (reuses : Bool) (old new : Content V) (ok : IsContent reuses old) where
  module _ (room : used old < most) where
    pub offer_free : (other : Key) → Stands old other → other.index ≢ old.offer.index
    offer_free other h e = grind arith

  module _ (k : Key) (v : V) (i : Inserts old k v new) where
    pub offers : (map.get old.next k.index ≡ Some k.version) ⊎ ((map.len old.next ≡ 0) × (k.index ≡ places old + 1) × (k.version ≡ 1))
    offers = rw i.offered (ok.offers i.below_limit)

    pub free : (other : Key) → Stands old other → other.index ≢ k.index
    free = rw i.offered (offer_free i.below_limit)

    pub places_grow : max (places old) (used old + 1) ≡ places new
    places_grow = grind (arith, len_inserted keys_total exact_keys old.live k v, map.len-remove nat_cmp_total old.next k.index)

  pub kept_places : Keeps old new → places new ≡ places old
  kept_places k = omega (arith, ap map.len k.live, ap set.len k.detached, ap set.len k.retired, ap map.len k.next)

  pub replaced_places : (k : Key) (v : V) → IsLive old k → Replaces old k v new → places new ≡ places old
  replaced_places k v is_live r = grind (arith, map.len-insert, keys_total)

  pub detached_places : (k : Key) → IsLive old k → Detaches old k new → places new ≡ places old
  detached_places k is_live r = grind (arith, common_steps, len_item_inserted, keys_total, len_removed)

  pub reattached_places : (k : Key) (v : V) → Reattaches old k v new → places new ≡ places old
  reattached_places k v r = grind (arith, common_steps, len_inserted, keys_total, exact_keys, false_of, len_item_removed)

  pub removed_places : (k : Key) → IsLive old k → Removes old k new → places new ≡ places old
  removed_places k is_live r = grind (arith, len_removed keys_total exact_keys old.live k is_live, len_retired_freed)
