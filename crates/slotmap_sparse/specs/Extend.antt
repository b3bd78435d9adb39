-- When a map can't be made of pairs.
use Rattle.std.specs.FinMap as map
use Rattle.std.specs.Prelude.{◌≡◌, List, None}
use Rattle.slotmap_core.specs.Words.{Key, Pairs, entry, vacant, AllPut}

-- once the pairs were inserted into an empty map, the key of the pair that is returned could be inserted, and nothing was at its index
pub record LacksRoomForPair {K V : Type 0} (data_of : K → Key) (pairs : List (K × V)) (back : K × V) : Type 0 where
  pub left : Pairs V
  pub put : AllPut data_of map.empty pairs left
  pub vacant : entry left (data_of back.0) ≡ vacant
  pub absent : map.get left (data_of back.0).index ≡ None
