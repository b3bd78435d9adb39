-- A map, or a content, with other values under the same keys.
use Rattle.std.specs.Prelude.{map as list_map}
use Rattle.std.specs.FinMap as map
use Rattle.slotmap.specs.Words.{key_cmp, Content}

module _ {V W : Type 0} where
  -- the same keys, each with what f makes of its value
  unfoldable pub map_values : (V → W) → map.FinMap key_cmp V → map.FinMap key_cmp W
  map_values f m = map.from_sorted (list_map (λ e. (e.0, f e.1)) (map.entries m))

  -- the same content with other live values
  abbrev pub with_live : Content V → map.FinMap key_cmp W → Content W
  with_live c live = record {
    live = live;
    detached = c.detached;
    retired = c.retired;
    next = c.next;
    offer = c.offer;
    stack = c.stack;
    room = c.room;
    capacity = c.capacity;
  }

  -- the same content, with what f makes of each value
  abbrev pub map_content : (V → W) → Content V → Content W
  map_content f c = with_live c (map_values f c.live)
