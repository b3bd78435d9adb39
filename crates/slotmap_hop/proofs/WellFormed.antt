-- A map stays well formed when values are written.
use Rattle.std.specs.FinMap as map
use Rattle.std.proofs.Common.{◌≡◌, true, arith}
use Rattle.slotmap_core.proofs.Common.{Key, IsLive, keys_total, IsContent-with_value}
use Rattle.slotmap_hop.specs.HopContent.{HopContent, IsHopContent, StaysHop, hop_with_value}

-- another value under a live key keeps it well formed
pub IsHopContent-with_value : {V : Type 0} (m : HopContent V) (k : Key) (w : V) → IsHopContent m → IsLive m.content k → IsHopContent (hop_with_value m k w)
IsHopContent-with_value m k w well is_live =
    let same : map.len (map.insert m.content.live k w) ≡ map.len m.content.live = grind (arith, map.len-insert keys_total m.content.live k w) in
    record {
      valid = IsContent-with_value true m.content well.valid k is_live w;
      none_detached = well.none_detached;
      no_stack = well.no_stack;
      maximal = well.maximal;
      offers = rw same well.offers;
    }

-- and keeps the capacity
pub StaysHop-with_value : {V : Type 0} (m now : HopContent V) (k : Key) (w : V) → StaysHop m now → IsLive now.content k → StaysHop m (hop_with_value now k w)
StaysHop-with_value m now k w stays is_live = record { before = stays.before; after = IsHopContent-with_value now k w stays.after is_live; capacity = stays.capacity }
