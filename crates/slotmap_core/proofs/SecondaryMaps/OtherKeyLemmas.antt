-- What a key finds in a secondary map after another key was put or removed.
-- For runs.
use Rattle.std.proofs.Common.{◌≡◌, ◌≢◌, ℕ, ◌^◌, ◌<◌, ◌≤◌, Option, Some, false, if◌then◌else◌, ◌⊎◌, ap, ◌∙◌, arith}
use Rattle.slotmap_core.specs.Words.{Key, Pairs, is_null, entry_at, value_at, has_entry, get, put, remove}
use Rattle.slotmap_core.proofs.General.KeyLemmas.{nat_cmp_total, exact_unsigned}
use Rattle.slotmap_core.proofs.General.Maps.{get_after_insert, get_after_remove, get_inserted, get_other}
use Rattle.std.specs.FinMap as map
pub use Rattle.slotmap_core.proofs.SecondaryMaps.AtIndexLemmas.{removed_gone, others_stay}

module _ {V : Type 0} where
  -- what is at an index after a version was put there, where o was
  abbrev put_at : ℕ → V → Option (ℕ × V) → Option (ℕ × V)
  put_at version v o = if has_entry (entry_at version o) then Some (version, v) else o

  -- the newest version is bound
  bound_at : (version : ℕ) (v : V) (o : Option (ℕ × V)) → version < 2 ^ 31 → ((p : ℕ × V) → o ≡ Some p → p.0 ≤ version) → value_at version (put_at version v o) ≡ Some v
  bound_at version v o half newest = grind arith

  module _ (m : Pairs V) (k : Key) (v : V) where
    put_value : is_null k ≡ false → map.get (put m k v) k.index ≡ put_at k.version v (map.get m k.index)
    put_value key = grind (arith, get_inserted nat_cmp_total exact_unsigned m k.index (k.version, v))

    put_elsewhere : (i : ℕ) → i ≢ k.index → map.get (put m k v) i ≡ map.get m i
    put_elsewhere i other = grind (arith, get_other nat_cmp_total exact_unsigned m k.index (k.version, v) i other)

    -- what is there after k was put is k, or was there before
    pub stands_after_put : (i : ℕ) (p : ℕ × V) → map.get (put m k v) i ≡ Some p → ((i ≡ k.index) × (p.0 ≡ k.version)) ⊎ (map.get m i ≡ Some p)
    stands_after_put i p h = grind (arith, get_after_insert nat_cmp_total exact_unsigned m k.index (k.version, v) i p)

    -- the newest key finds its value
    pub newest_put : is_null k ≡ false → k.version < 2 ^ 31 → ((p : ℕ × V) → map.get m k.index ≡ Some p → p.0 ≤ k.version) → get (put m k v) k ≡ Some v
    newest_put key half newest = ap (value_at k.version) (put_value key) ∙ bound_at k.version v (map.get m k.index) half newest

    -- a newer key finds the same as before, and so does a key of another index
    pub newer_stays : (q : Key) → is_null k ≡ false → q.version < 2 ^ 31 → (q.index ≡ k.index → k.version < q.version) → get (put m k v) q ≡ get m q
    newer_stays q key half newer = grind (arith, put_value, put_elsewhere)

  -- what is there after k was removed was there before
  pub stands_after_remove : (m : Pairs V) (k : Key) (i : ℕ) (p : ℕ × V) → map.get (remove m k) i ≡ Some p → map.get m i ≡ Some p
  stands_after_remove m k i p h = grind (arith, get_after_remove nat_cmp_total exact_unsigned m k.index i p)
