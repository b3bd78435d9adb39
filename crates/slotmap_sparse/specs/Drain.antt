-- What a contract sees of a `Drain`.
use Rattle.std.specs.FinMap as map
use Rattle.std.specs.Prelude.{◌≡◌, ◌≤◌, Option, Some, None}
use Rattle.slotmap_core.specs.Words.{MutBor, Count, at_most, Key, get, remove}
use Rattle.slotmap_sparse.specs.Content.{SparseContent, room}
use Rattle.slotmap_sparse.specs.declared.drain.Drain.{Drain}

-- `None` is returned if nothing is left; otherwise a key and its value, which are removed
abbrev pub TakesPair : {K V : Type 0} → (K → Key) → SparseContent V → Option (K × V) → SparseContent V → Type 0
TakesPair data_of old None new = (old.pairs ≡ map.empty) × (new ≡ old)
TakesPair data_of old (Some item) new = (get old.pairs (data_of item.0) ≡ Some item.1) × (new.pairs ≡ remove old.pairs (data_of item.0))

module _ {K V S Z : Type 0} where
  -- the loan of the map
  abbrev pub sparse_drain_loan : Drain K V S Z → MutBor (SparseContent V)
  sparse_drain_loan d = d.map

  -- how many pairs are left
  abbrev pub drain_count : Drain K V S Z → Count
  drain_count d = at_most (map.len d.map.now.pairs)

  -- old and new borrow the same map, and there is memory for at least as many further keys
  abbrev pub DrainKeeps : Drain K V S Z → Drain K V S Z → Type 0
  DrainKeeps old new = (new.map.ghost_name ≡ old.map.ghost_name) × (room old.map.now ≤ room new.map.now)

  -- `next` took old to new, and returned the item
  abbrev pub SparseDrainSteps : (K → Key) → Drain K V S Z → Option (K × V) → Drain K V S Z → Type 0
  SparseDrainSteps data_of old item new = TakesPair data_of old.map.now item new.map.now × DrainKeeps old new
