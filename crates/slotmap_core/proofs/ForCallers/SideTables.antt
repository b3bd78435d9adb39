-- A side table whose keys are live in a primary map: what a call of either map does to the two.
-- For callers.
use Rattle.std.proofs.Common.{◌≡◌, ◌≢◌, ℕ, Bool, true, false, inl, Some, None, Result, IfOk, IsErr, OnOk, OnErr, arith}
use Rattle.slotmap_core.specs.Words.{Key, IsBeside, Content, IsContent, IsLive, Pairs, get, contains_key, entry, has_entry, put, remove, Inserts, Keeps}
use Rattle.slotmap_core.proofs.ForCallers.SecondaryCallers.{get_none, get-put_here, get-put_elsewhere, get-bind_follower}
use Rattle.slotmap_core.proofs.ForCallers.Callers.{live-insert_still, live-remove_other}
use Rattle.slotmap_core.proofs.SecondaryMaps.AtIndexLemmas.{removed_gone, others_stay}
use Rattle.slotmap_core.proofs.General.{KeyLemmas.same_or_other, KeyLemmas.nat_tests, Maps.none_of, Maps.false_of}
use Rattle.std.specs.FinMap as map

module _ {E V : Type 0} (c new : Content E) (m : Pairs V) (beside : IsBeside c m) where
  -- a key that isn't live finds nothing in the table
  pub beside_absent : (k : Key) → map.contains_key c.live k ≡ false → get m k ≡ None
  beside_absent k dead = none_of (get m k) (false_of (contains_key m k) (λ there. let live = beside k there in absurd (cc)))

  -- the same live keys, one more, or one less, which leaves the table too
  pub beside_kept : new.live ≡ c.live → IsBeside new m
  beside_kept is q there = rw is (beside q there)

  pub beside_inserted : (k : Key) (v : E) → new.live ≡ map.insert c.live k v → IsBeside new m
  beside_inserted k v is q there = rw is (live-insert_still c.live k v q (beside q there))

  pub beside_removed : (k : Key) → new.live ≡ map.remove c.live k → IsBeside new (remove m k)
  beside_removed k is q there = grind (arith, same_or_other, removed_gone, live-remove_other, others_stay)

  -- by the clauses of an insert, whatever it returns
  module _ {K R : Type 0} (data_of : K → Key) (v : E) (answer : Result K R) (ok : IfOk answer (λ key. Inserts c (data_of key) v new)) where
    pub beside_insert : (IsErr answer → Keeps c new) → IsBeside new m
    beside_insert unchanged = grind (arith, beside_inserted, beside_kept)

    -- a key that comes finds nothing
    pub insert_absent : (reuses : Bool) → IsContent reuses c → IfOk answer (λ key. get m (data_of key) ≡ None)
    insert_absent reuses well = grind arith

pub beside_empty : {E V : Type 0} (c : Content E) (m : Pairs V) → m ≡ map.empty → IsBeside c m
beside_empty c m is k there = let none : get m k ≡ None = rw is (get_none k) in absurd (cc)

-- a live key has an entry, since no other key of its index is in the table
module _ {E V : Type 0} (reuses : Bool) (c : Content E) (well : IsContent reuses c) (m : Pairs V) (beside : IsBeside c m) (k : Key) (live : IsLive c k) where
  alone : (q : Key) → contains_key m q ≡ true → q.index ≡ k.index → q ≡ k
  alone q there at = well.apart q k (inl (inl (beside q there))) (inl (inl live)) at

  live_same_version : (p : ℕ × V) → map.get m k.index ≡ Some p → p.0 ≡ k.version
  live_same_version p is = grind (arith, nat_tests, alone (record { index = k.index; version = p.0 }))

  pub live_has_entry : has_entry (entry m k) ≡ true
  live_has_entry = let within = well.within k (inl (inl live)) in let limit = well.limit in grind (arith, nat_tests, live_same_version)

  -- so a put under it changes what it finds, and nothing under any other key
  pub get-put_live : (v : V) → get (put m k v) k ≡ Some v
  get-put_live v = get-put_here m k v live_has_entry

  pub get-put_other : (v : V) (q : Key) → q ≢ k → get (put m k v) q ≡ get m q
  get-put_other v q other = grind (arith, get-bind_follower, get-put_elsewhere)

  pub beside_put : (v : V) → IsBeside c (put m k v)
  beside_put v q there = grind (arith, same_or_other, get-put_other)

  -- by the clauses of a put, whatever it returns
  module _ (v : V) (n : Pairs V) {P R : Type 0} (answer : Result P R) (ok : OnOk answer (n ≡ put m k v)) (unchanged : OnErr answer (n ≡ m)) where
    pub attach_beside : IsBeside c n
    attach_beside = grind (arith, beside_put)

    pub attach_finds : OnOk answer (get n k ≡ Some v)
    attach_finds = grind (arith, get-put_live)

    pub attach_others : (q : Key) → q ≢ k → get n q ≡ get m q
    attach_others q other = grind (arith, get-put_other)
