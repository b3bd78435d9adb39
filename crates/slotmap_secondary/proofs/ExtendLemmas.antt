-- What one more inserted pair leaves of the slots and the capacity.
use Rattle.std.proofs.Common.{◌≡◌, arith}
use Rattle.slotmap_core.proofs.Common.{Key, put, nat_cmp_total, exact_unsigned, in_inserted, still_in}
use Rattle.slotmap_secondary.specs.{Content.SideContent, Content.Reaches, Extend.Grows}

module _ {V : Type 0} where
  pub Grows-put : (old at new : SideContent V) (k : Key) (v : V) → Grows old at → new.pairs ≡ put at.pairs k v → Reaches at k new → Grows old new
  Grows-put old at new k v before puts reaches = grind (arith, in_inserted nat_cmp_total exact_unsigned at.pairs, still_in nat_cmp_total exact_unsigned at.pairs k.index)
