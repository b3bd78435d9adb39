-- How a list is kept: its values in a map, and the indices of their keys, in the order of the list, as a list of numbers.
use Rattle.std.specs.Prelude.{◌≡◌, ℕ, ◌<◌, ◌≤◌, true, List, [], length, Option, Some, None, option_map}
use Rattle.std.specs.List.{filter_map}
use Rattle.slotmap.specs.Words.{Key, key_cmp, Content, IsLive}
use Rattle.slotmap_bounded.specs.{Bounded.bound, Indices.AreApart, Indices.found_at}
use Rattle.slotmap_links.specs.Lists.{Lists, list_of, times}
use Rattle.std.specs.FinMap as map

module _ {T : Type 0} where
  -- a key with its value
  abbrev pub with_value : map.FinMap key_cmp T → Option Key → Option (Key × T)
  with_value m None = None
  with_value m (Some k) = option_map (λ v. (k, v)) (map.get m k)

  -- the live key with this index, and its value
  unfoldable pub at_index : map.FinMap key_cmp T → ℕ → Option (Key × T)
  at_index m i = with_value m (found_at m i)

  -- the elements at these indices, in their order
  abbrev pub elements_at : map.FinMap key_cmp T → List ℕ → List (Key × T)
  elements_at m is = filter_map (at_index m) is

  -- the live key with an index, if there is one
  abbrev pub key_there : map.FinMap key_cmp T → Option ℕ → Option Key
  key_there m None = None
  key_there m (Some i) = option_map (λ e. e.0) (at_index m i)

  -- each of these numbers is the index of a live key
  pub record AreLiveIndices (m : map.FinMap key_cmp T) (is : List ℕ) : Type 0 where
    pub apart : AreApart m
    pub live : (i : ℕ) → 0 < times i is → (k : Key) × (map.contains_key m k ≡ true) × (k.index ≡ i)

  -- the list of owner 0 has the index of each live key once
  pub record IsKept (values : Content T) (links : Lists) : Type 0 where
    pub owner : length links.lists ≡ 1
    pub indices : AreLiveIndices values.live (list_of links 0)
    pub once : (k : Key) → IsLive values k → times k.index (list_of links 0) ≡ 1
    pub within : (i : ℕ) → 0 < times i (list_of links 0) → i < links.members
    -- there is a link for each index that a key can have
    pub covered : bound values < links.members

  -- an iterator from a cursor on has these indices left, which are so many at most
  pub record IsRest (m : map.FinMap key_cmp T) (is : List ℕ) (most : ℕ) : Type 0 where
    pub indices : AreLiveIndices m is
    pub few : length is ≤ most

-- the indices that such an iterator has left; it may have begun nowhere
abbrev pub all_of : Option (List ℕ) → List ℕ
all_of None = []
all_of (Some is) = is
