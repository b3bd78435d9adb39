-- How the number of live, detached and retired keys changes.
use Rattle.std.proofs.Common.{◌≡◌, ◌+◌, ◌≤◌, ◌&&◌, ◌||◌, ◌⊎◌}
use Rattle.std.specs.FinMap as map
use Rattle.std.specs.FinSet as set
use Rattle.slotmap_run.proofs.Common.{in_use}
use Rattle.slotmap_core.proofs.Common.{Key, key_cmp, is_last, State, StandsIn, Fresh, after_insert, retired, keys_total, in_retired, true, arith}
use Rattle.slotmap_run.proofs.MapChanges.{changes}
use Rattle.slotmap_run.proofs.SetCounts.{all_keys, contains-all_keys, len-all_keys, len-subset}

-- no key is both live and detached
abbrev pub IsApart : {V : Type 0} → State V → Type 0
IsApart s = (k : Key) → map.contains_key s.live k ≡ true → set.contains s.detached k ≡ true → ⊥

module _ {V : Type 0} where
  abbrev used_keys : State V → set.FinSet key_cmp
  used_keys s = all_keys s.live s.detached (retired s)

  -- they are live, detached, or the last of their index
  in_used : (s : State V) (q : Key) → set.contains (used_keys s) q ≡ (map.contains_key s.live q || (set.contains s.detached q || (set.contains s.issued q && is_last q)))
  in_used s q = grind (arith, contains-all_keys s.live s.detached (retired s) q, in_retired s q)

  len-used_keys : (s : State V) → IsApart s → set.len (used_keys s) ≡ in_use s
  len-used_keys s apart = len-all_keys s.live s.detached (retired s) apart (λ q held h. grind (arith, in_retired s q))

  -- if no key is returned, and none is held that wasn't, no more indices are taken
  pub no_more_used : (s t : State V) → IsApart s → IsApart t → t.issued ≡ s.issued → ((q : Key) → StandsIn t q → StandsIn s q) → in_use t ≤ in_use s
  no_more_used s t apart after issued held = grind (arith, len-subset, in_used, in_used s, len-used_keys s apart, len-used_keys t after)

  pub bound_held : (s : State V) (k : Key) (v : V) (q : Key) → StandsIn (after_insert s k v) q → (q ≡ k) ⊎ StandsIn s q
  bound_held s k v q h = grind (arith, changes)

  module _ (s : State V) (k : Key) (v : V) (apart : IsApart s) (fresh : Fresh s k) where
    apart_after : IsApart (after_insert s k v)
    apart_after q h g = grind (arith, changes, fresh.apart q, apart q)

    -- the key that an insert returns is one more
    pub one_more_used : in_use (after_insert s k v) ≤ in_use s + 1
    one_more_used =
        let more = len-subset (used_keys (after_insert s k v)) (set.insert (used_keys s) k) (λ q h. grind (arith, changes, in_used (after_insert s k v) q, in_used s q)) in
        grind (arith, len-used_keys s apart, len-used_keys (after_insert s k v) apart_after, set.len-insert keys_total (used_keys s) k)
