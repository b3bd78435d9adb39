-- How many components a table has after a put: at most one more.
use Rattle.std.proofs.Common.{◌≡◌, ◌+◌, ◌≤◌, Result, Ok, Err, OnOk, OnErr, true, arith}
use Rattle.std.specs.Cmp.{nat_cmp_total}
use Rattle.slotmap.specs.Words.{Key, Pairs, contains_key, put}
use Rattle.std.specs.FinMap as map

module _ {V : Type 0} where
  -- a put adds one at most, whatever it returns
  pub one_more : {A B : Type 0} (answer : Result A B) (old new : Pairs V) (k : Key) (v : V) → OnOk answer (new ≡ put old k v) → OnErr answer (new ≡ old) → map.len new ≤ map.len old + 1
  one_more (Ok x) old new k v puts keeps = grind (arith, map.len-insert nat_cmp_total old k.index (k.version, v))
  one_more (Err e) old new k v puts keeps = grind arith

  -- a put where there is a value already adds none, whatever it returns
  pub none_more : {A B : Type 0} (answer : Result A B) (old new : Pairs V) (k : Key) (v : V) → OnOk answer (new ≡ put old k v) → OnErr answer (new ≡ old)
      → contains_key old k ≡ true → map.len new ≤ map.len old
  none_more (Ok x) old new k v puts keeps there = grind (arith, map.len-insert nat_cmp_total old k.index (k.version, v))
  none_more (Err e) old new k v puts keeps there = grind arith
