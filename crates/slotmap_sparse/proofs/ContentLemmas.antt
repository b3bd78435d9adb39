-- What a write under a key of the map leaves of its content.
use Rattle.std.proofs.Common.{◌≡◌, true, arith}
use Rattle.slotmap_core.proofs.Common.{Key, contains_key, IsSecondary-again, len_again}
use Rattle.slotmap_sparse.specs.Content.{SparseContent, IsSparseContent, sparse_with_value}

-- another value for a key of the map
pub IsContent-with_value : {V : Type 0} (c : SparseContent V) (k : Key) (v : V) → IsSparseContent c → contains_key c.pairs k ≡ true → IsSparseContent (sparse_with_value c k v)
IsContent-with_value c k v well has = record { keys = IsSecondary-again c.pairs k v has well.keys; fits = omega (arith, len_again c.pairs k v has, well.fits) }
