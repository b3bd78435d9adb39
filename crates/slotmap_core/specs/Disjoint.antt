-- Several live keys that get new values at once: the words of `Several`, of a content.
use Rattle.std.specs.Prelude.{List, Option}
use Rattle.std.specs.FinMap as map
use Rattle.slotmap_core.specs.Key.{Key}
use Rattle.slotmap_core.specs.Content.{Content}
use Rattle.slotmap_core.specs.Transition.{with_value}
use Rattle.slotmap_core.specs.Several as several

module _ {V : Type 0} where
  abbrev pub value_of : Content V → Key → Option V
  value_of c k = map.get c.live k

  -- each key is live, and no two are equal
  abbrev pub CanReplace : Content V → List Key → Type 0
  CanReplace c keys = several.CanReplace value_of c keys

  -- these are the values of the keys, in their order
  abbrev pub AreValuesOf : Content V → List Key → List V → Type 0
  AreValuesOf c keys values = several.AreValuesOf value_of c keys values

  -- each key has the value at its position in the list, and nothing else changed
  abbrev pub with_values : Content V → List Key → List V → Content V
  with_values c keys values = several.with_values with_value c keys values
