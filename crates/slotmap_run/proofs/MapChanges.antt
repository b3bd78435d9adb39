-- What a map or a set of keys has at a key after a change, for the tactic.
use Rattle.std.specs.FinMap as map
use Rattle.std.specs.FinSet as set
use Rattle.std.proofs.Common.{◌≡◌, ◌&&◌, ◌||◌, Some, None, true, cond, not}
use Rattle.slotmap_core.proofs.Common.{eq_by_cmp, Key, key_cmp, keys_total, exact_keys, tied}

pub same_key : (q k : Key) → eq_by_cmp key_cmp q k ≡ true → q ≡ k
same_key = tied keys_total exact_keys

module _ {V : Type 0} (m : map.FinMap key_cmp V) (k : Key) where
  pub get-insert : (v : V) (q : Key) → map.get (map.insert m k v) q ≡ cond (eq_by_cmp key_cmp q k) (Some v) (map.get m q)
  get-insert = map.get-insert keys_total m k

  pub get-remove : (q : Key) → map.get (map.remove m k) q ≡ cond (eq_by_cmp key_cmp q k) None (map.get m q)
  get-remove = map.get-remove keys_total m k

module _ (s : set.FinSet key_cmp) (k q : Key) where
  pub contains-insert : set.contains (set.insert s k) q ≡ (eq_by_cmp key_cmp q k || set.contains s q)
  contains-insert = set.contains-insert keys_total s k q

  pub contains-remove : set.contains (set.remove s k) q ≡ (not (eq_by_cmp key_cmp q k) && set.contains s q)
  contains-remove = set.contains-remove keys_total s k q

pub ruleset changes = (get-insert, get-remove, contains-insert, contains-remove, same_key)
