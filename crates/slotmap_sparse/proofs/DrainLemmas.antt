-- What the steps of a drain leave.
use Rattle.std.specs.FinMap as map
use Rattle.slotmap_core.proofs.Common.{MakesProgress, Key, Option, Some, None, is_some, ap, arith, len_taken}
use Rattle.slotmap_sparse.specs.declared.drain.Drain.{Drain}
use Rattle.slotmap_sparse.specs.Drain.{TakesPair, drain_count}

module _ {K V S Z : Type 0} (data_of : K → Key) where
  -- a step leaves fewer pairs
  pub Drain-goes : (can : Drain K V S Z → Type 0) → ((d : Drain K V S Z) → can d) → (old new : Drain K V S Z) (item : Option (K × V)) → TakesPair data_of old.map.now item new.map.now
      → MakesProgress can drain_count old item new
  Drain-goes can always old new None taken = record { on = λ _. tt; keeps = tt; rests = λ finite. finite }
  Drain-goes can always old new (Some item) taken =
      record { on = λ finite. (always new, finite, omega (arith, (len_taken old.map.now.pairs (data_of item.0) (ap is_some taken.0)), ap map.len taken.1)); keeps = always new; rests = λ _. tt }
