-- What a `SparseSecondaryMap` is once a returned `&mut` to one of its values ends.
use Rattle.std.specs.declared.hash.Hasher as hasher
use Rattle.std.specs.declared.hash.BuildHasher as builder
use Rattle.slotmap_core.specs.Words.{Option, Lends, LendsIf, Fml, RattleType, MutBor, Key}
use Rattle.slotmap_sparse.specs.Content.{SparseContent, sparse_with_value}
use Rattle.slotmap_sparse.specs.contracts.SparseSecondaryMap.{the_row}

module _ (K V S H : RattleType) (build : builder.Ghosts S.Denot H.Denot) (hash : hasher.Ghosts H.Denot) (m : MutBor (SparseContent V.Denot)) (k : Key) where
  -- once the borrow r ends, the key has the last value written through r
  abbrev pub lends_value : MutBor V.Denot → Fml
  lends_value r = Lends (the_row K V S H build hash) V m r (sparse_with_value m.now k)

  -- the same if r is a reference; at `None` the map is unchanged
  abbrev pub lends_get : Option (MutBor V.Denot) → Fml
  lends_get r = LendsIf (the_row K V S H build hash) V m r (sparse_with_value m.now k) m.now
