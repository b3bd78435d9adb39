-- A map in which one value is another one.
use Rattle.std.specs.Prelude.{Option, Some, None}
use Rattle.std.specs.FinMap as map
use Rattle.slotmap.specs.Words.{Key, key_cmp}

module _ {V : Type 0} where
  abbrev pub changed_in : map.FinMap key_cmp V → Key → Option V → (V → V) → map.FinMap key_cmp V
  changed_in m k None f = m
  changed_in m k (Some v) f = map.insert m k (f v)

  -- the value under k, if there is one, is changed
  abbrev pub changed : map.FinMap key_cmp V → Key → (V → V) → map.FinMap key_cmp V
  changed m k f = changed_in m k (map.get m k) f
