-- How several lists are kept: the values of all in one map, the indices of the keys as lists of numbers, and for each index the number of its list.
use Rattle.std.specs.Prelude.{◌≡◌, ℕ, ◌<◌, ◌≤◌, ◌^◌, List, length, slice_index_or, map as list_map, if◌then◌else◌, nat_eq}
use Rattle.slotmap.specs.Words.{Key, key_cmp, Content, IsLive}
use Rattle.slotmap_bounded.specs.Bounded.{bound}
use Rattle.slotmap_links.specs.Lists.{Lists, list_of, times}
use Rattle.slotmap_list.specs.Kept.{AreLiveIndices, elements_at}
use Rattle.std.specs.FinMap as map

-- the number of the list that an index is in
abbrev pub home_of : List ℕ → ℕ → ℕ
home_of homes i = slice_index_or homes i 0

-- 1 for one number, 0 for two
abbrev pub one_if : ℕ → ℕ → ℕ
one_if a b = if nat_eq a b then 1 else 0

module _ {T : Type 0} where
  -- the elements of each list
  abbrev pub lists_at : map.FinMap key_cmp T → Lists → List (List (Key × T))
  lists_at m s = list_map (elements_at m) s.lists

  -- the index of each live key is in the list that is its home, once, and in no other
  pub record AreListed (values : Content T) (homes : List ℕ) (links : Lists) : Type 0 where
    pub indices : (p : ℕ) → AreLiveIndices values.live (list_of links p)
    pub at_home : (k : Key) → IsLive values k → (p : ℕ) → times k.index (list_of links p) ≡ one_if (home_of homes k.index) p
    pub within : (p i : ℕ) → 0 < times i (list_of links p) → i < links.members
    -- there is a link for each index that a key can have, and a home for each link
    pub covered : bound values < links.members
    pub homes_long : links.members ≤ length homes
    pub few : length links.lists < 2 ^ 32
