-- What a caller of a map needs, in one list for `using`.
-- For the crates of maps and callers.
use Rattle.std.proofs.Common.{◌≡◌, ◌≢◌, ◌+◌, Bool, true, false, cond, inl, None, Some, is_some, Result, Ok, Err, IfOk, IsErr, refl, sym, ap, ◌∙◌}
use Rattle.slotmap_core.specs.Key.{Key, key_cmp}
use Rattle.slotmap_core.specs.Content.{Content, IsContent, IsLive}
use Rattle.slotmap_core.specs.Transition.{Inserts, Removes, Keeps}
use Rattle.slotmap_core.proofs.Contents.UndoLemmas.{offer_unused, remove-insert_item}
use Rattle.slotmap_core.proofs.General.Maps.{none_of, get_inserted, get_removed, get_other, remove_inserted, in_inserted, still_in, left_in, false_of, len_inserted, len_removed, item_inserted}
use Rattle.slotmap_core.proofs.General.{KeyLemmas.keys_total, KeyLemmas.exact_keys, ListingLemmas.insert-remove, MapLaws.remove_absent}
use Rattle.std.specs.FinMap as map
use Rattle.std.specs.FinSet as set
pub use Rattle.slotmap_core.proofs.Contents.IndexLemmas.{get-remove_other}

module _ {V : Type 0} where
  -- what a map of keys has after a change
  pub get_empty : (k : Key) → map.get (map.empty {X = V} {R = key_cmp}) k ≡ None
  get_empty k = map.get-empty key_cmp k

  pub get-insert_here : (m : map.FinMap key_cmp V) (k : Key) (v : V) → map.get (map.insert m k v) k ≡ Some v
  get-insert_here = get_inserted keys_total exact_keys

  pub get-insert_other : (m : map.FinMap key_cmp V) (k : Key) (v : V) (q : Key) → q ≢ k → map.get (map.insert m k v) q ≡ map.get m q
  get-insert_other = get_other keys_total exact_keys

  pub get-remove_here : (m : map.FinMap key_cmp V) (k : Key) → map.get (map.remove m k) k ≡ None
  get-remove_here = get_removed keys_total exact_keys

  pub remove_stale : (m : map.FinMap key_cmp V) (k : Key) → map.get m k ≡ None → map.remove m k ≡ m
  remove_stale m k none = remove_absent keys_total exact_keys m k none

  -- a key that is inserted and removed again, or the other way round
  pub remove-insert_new : (m : map.FinMap key_cmp V) (k : Key) (v : V) → map.contains_key m k ≡ false → map.remove (map.insert m k v) k ≡ m
  remove-insert_new m k v new = remove_inserted keys_total exact_keys m k v ∙ remove_absent keys_total exact_keys m k (none_of (map.get m k) new)

  -- which keys are live after an insert or a removal
  pub live-insert_here : (m : map.FinMap key_cmp V) (k : Key) (v : V) → map.contains_key (map.insert m k v) k ≡ true
  live-insert_here m k v = in_inserted keys_total exact_keys m k v

  pub live-insert_still : (m : map.FinMap key_cmp V) (k : Key) (v : V) (q : Key) → map.contains_key m q ≡ true → map.contains_key (map.insert m k v) q ≡ true
  live-insert_still m k v q there = still_in keys_total exact_keys m k v q there

  pub live-remove_here : (m : map.FinMap key_cmp V) (k : Key) → map.contains_key (map.remove m k) k ≡ false
  live-remove_here m k = ap is_some (get-remove_here m k)

  pub live-remove_other : (m : map.FinMap key_cmp V) (k q : Key) → q ≢ k → map.contains_key m q ≡ true → map.contains_key (map.remove m k) q ≡ true
  live-remove_other m k q other there = left_in keys_total exact_keys m k q other there

  -- how many keys the map has after an insert or a removal
  pub len-insert_live : (m : map.FinMap key_cmp V) (k : Key) (v w : V) → map.get m k ≡ Some w → map.len (map.insert m k v) ≡ map.len m
  len-insert_live m k v w there = map.len-insert keys_total m k v ∙ ap (λ o. cond (is_some o) (map.len m) (map.len m + 1)) there

  module _ (reuses : Bool) (old : Content V) (k : Key) (v : V) (new : Content V) where
    -- the key that an insert returns wasn't live
    pub inserted_fresh : IsContent reuses old → Inserts old k v new → map.contains_key old.live k ≡ false
    inserted_fresh well inserts = false_of (map.contains_key old.live k) (λ there.
        offer_unused old well inserts.below_limit (inl (inl (sym (ap (map.contains_key old.live) inserts.offered) ∙ there))))

    pub inserted_len : IsContent reuses old → Inserts old k v new → map.len new.live ≡ map.len old.live + 1
    inserted_len well inserts = ap map.len inserts.live ∙ len_inserted keys_total exact_keys old.live k v (inserted_fresh well inserts)

  -- what was live is still live after an insert, whatever it returns
  pub insert_still : (old : Content V) {K R : Type 0} (data_of : K → Key) (v : V) (new : Content V) (answer : Result K R)
      → IfOk answer (λ key. Inserts old (data_of key) v new) → (IsErr answer → Keeps old new) → (q : Key) → IsLive old q → IsLive new q
  insert_still old data_of v new (Ok key) inserts unchanged q live = rw inserts.live (live-insert_still old.live (data_of key) v q live)
  insert_still old data_of v new (Err e) none unchanged q live = rw ((unchanged refl).live) live

  -- the same in the forms that a tactic finds: for the maps that reuse their slots without allocating, and for the others
  module _ (old : Content V) (k : Key) (v : V) (new : Content V) where
    pub inserted_fresh-reuses : IsContent true old → Inserts old k v new → map.contains_key old.live k ≡ false
    inserted_fresh-reuses = inserted_fresh true old k v new

    pub inserted_fresh-grows : IsContent false old → Inserts old k v new → map.contains_key old.live k ≡ false
    inserted_fresh-grows = inserted_fresh false old k v new

    pub inserted_len-reuses : IsContent true old → Inserts old k v new → map.len new.live ≡ map.len old.live + 1
    inserted_len-reuses = inserted_len true old k v new

    pub inserted_len-grows : IsContent false old → Inserts old k v new → map.len new.live ≡ map.len old.live + 1
    inserted_len-grows = inserted_len false old k v new

  -- a live key isn't detached
  pub not_detached-reuses : (c : Content V) (k : Key) → IsContent true c → IsLive c k → set.contains c.detached k ≡ false
  not_detached-reuses c k well live = false_of (set.contains c.detached k) (well.not_live_and_detached k live)

  pub not_detached-grows : (c : Content V) (k : Key) → IsContent false c → IsLive c k → set.contains c.detached k ≡ false
  not_detached-grows c k well live = false_of (set.contains c.detached k) (well.not_live_and_detached k live)

  pub removed_len : (old : Content V) (k : Key) (v : V) (new : Content V) → map.get old.live k ≡ Some v → Removes old k new → map.len new.live + 1 ≡ map.len old.live
  removed_len old k v new found removes = ap (λ (m : map.FinMap key_cmp V). map.len m + 1) removes.live ∙ len_removed keys_total exact_keys old.live k (ap is_some found)

-- which keys are detached
pub detached-insert_here : (s : set.FinSet key_cmp) (k : Key) → set.contains (set.insert s k) k ≡ true
detached-insert_here s k = item_inserted keys_total exact_keys s k

pub ruleset undone = (remove-insert_new, insert-remove, detached-insert_here, remove-insert_item, not_detached-reuses, not_detached-grows)

pub ruleset lookups = (get_empty, get-insert_here, get-insert_other, get-remove_here, get-remove_other, remove_stale)

pub ruleset liveness = (live-insert_here, live-insert_still, live-remove_here, live-remove_other)

pub ruleset counts = (len-insert_live, inserted_len-reuses, inserted_len-grows, removed_len)

pub ruleset keys = (lookups, undone, liveness, counts, inserted_fresh-reuses, inserted_fresh-grows)
