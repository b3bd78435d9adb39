-- What a caller of a secondary map needs, in one list for `using`.
-- For callers.
use Rattle.std.proofs.Common.{◌≡◌, ◌≢◌, true, None, Some, arith, ap, ◌∙◌}
use Rattle.std.proofs.lemmas.Map.Lookups.{exact_unsigned}
use Rattle.std.specs.{Ordering.nat_cmp, Cmp.nat_cmp_total}
use Rattle.slotmap_core.specs.Key.{Key}
use Rattle.slotmap_core.specs.Secondary.{Pairs, get, bind, put, remove, entry, has_entry, value_at}
use Rattle.slotmap_core.proofs.SecondaryMaps.SecondaryLemmas.{get_bound, put_bound, put_nothing}
use Rattle.slotmap_core.proofs.General.Maps.{get_inserted, get_other, get_left}
use Rattle.slotmap_core.proofs.SecondaryMaps.{SecondaryEqualLemmas.equal_where, AtIndexLemmas.removed_gone}
use Rattle.std.specs.FinMap as map

module _ {V : Type 0} where
  pub get_none : (k : Key) → get {V = V} map.empty k ≡ None
  get_none k = ap (value_at k.version) (map.get-empty nat_cmp k.index)

  -- a key that has an entry has the value that was put under it
  pub get-put_here : (m : Pairs V) (k : Key) (v : V) → has_entry (entry m k) ≡ true → get (put m k v) k ≡ Some v
  get-put_here m k v has = ap (λ n. get n k) (put_bound m k v has) ∙ get_bound m k v

  -- a value that is put under a key isn't found under another key of its index
  pub get-bind_follower : (m : Pairs V) (k q : Key) (v : V) → q.index ≡ k.index → q.version ≢ k.version → get (bind m k v) q ≡ None
  get-bind_follower m k q v at other = grind (arith, get_inserted nat_cmp_total exact_unsigned m k.index (k.version, v))

  -- and changes nothing at other indices
  pub get-bind_elsewhere : (m : Pairs V) (k q : Key) (v : V) → q.index ≢ k.index → get (bind m k v) q ≡ get m q
  get-bind_elsewhere m k q v other = ap (value_at q.version) (get_other nat_cmp_total exact_unsigned m k.index (k.version, v) q.index other)

  pub get-put_elsewhere : (m : Pairs V) (k q : Key) (v : V) → q.index ≢ k.index → get (put m k v) q ≡ get m q
  get-put_elsewhere m k q v other = grind (arith, get_other nat_cmp_total exact_unsigned m k.index (k.version, v) q.index other)

  -- removing a key changes nothing at other indices
  pub get-remove_elsewhere : (m : Pairs V) (k q : Key) → q.index ≢ k.index → get (remove m k) q ≡ get m q
  get-remove_elsewhere m k q other = grind (arith, get_left nat_cmp_total exact_unsigned m k.index q.index other)

pub ruleset secondary = (get_none, get-put_here, put_nothing, get_bound, get-bind_follower, get-bind_elsewhere, get-put_elsewhere, removed_gone, get-remove_elsewhere, equal_where)
