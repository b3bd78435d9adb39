-- Lists of numbers, as two vectors keep them: the ends of each list, and the link of each number that may be in one.
use Rattle.std.specs.Prelude.{◌≡◌, ◌≢◌, ℕ, ◌<◌, ◌≤◌, Option, Some, None, cond, nat_eq, map as list_map, List, ◌++◌, length, slice_index_or}
use Rattle.slotmap_links.specs.Lists.{Lists, times, first_or, last_or}
use Rattle.slotmap_links.specs.Linked.{Bounds, Neighbours, followed, AreLinked, AreApart}
use Rattle.slotmap_links.specs.declared.Ends.{Ends}
use Rattle.slotmap_links.specs.declared.Link.{Link}

-- no member has this number: it stands for none
abbrev pub nobody : ℕ
nobody = 4294967295

abbrev pub unless_nobody : ℕ → Option ℕ
unless_nobody k = cond (nat_eq k nobody) None (Some k)

-- the two ends of a list with no members, and the link of a number with no neighbours
abbrev pub no_ends : Ends
no_ends = record { first = nobody; last = nobody; len = 0 }

abbrev pub no_link : Link
no_link = record { prev = nobody; next = nobody }

abbrev pub bounds : Ends → Bounds
bounds e = record { first = unless_nobody e.first; last = unless_nobody e.last; len = e.len }

abbrev pub neighbours : Link → Neighbours
neighbours l = record { prev = unless_nobody l.prev; next = unless_nobody l.next }

-- the ends of each owner's list
abbrev pub bounds_at : List Ends → ℕ → Bounds
bounds_at ends p = bounds (slice_index_or ends p no_ends)

-- the neighbours of each number
abbrev pub link_at : List Link → ℕ → Neighbours
link_at links k = neighbours (slice_index_or links k no_link)

-- the list of each owner, by the links
abbrev pub listed : List Ends → List Link → ℕ → List ℕ
listed ends links p = followed (link_at links) (bounds_at ends p)

-- all lists, as the user sees them
abbrev pub lists_by : List Ends → List Link → ℕ × ℕ → Lists
lists_by ends links capacity = record { lists = list_map (λ e. followed (link_at links) (bounds e)) ends; members = length links; capacity = capacity }

-- what holds of the two vectors
pub record AreKept (ends : List Ends) (links : List Link) : Type 0 where
  pub linked : AreLinked (bounds_at ends) (link_at links) (listed ends links)
  pub apart : AreApart (listed ends links)
  pub within : (p k : ℕ) → 0 < times k (listed ends links p) → k < length links
  pub few : length links ≤ nobody

-- a place in a list, between these two numbers of it, or at an end
pub record IsGap (ks : List ℕ) (prev next : Option ℕ) : Type 0 where
  pub before : List ℕ
  pub after : List ℕ
  pub is : ks ≡ before ++ after
  pub prev_is : prev ≡ last_or before None
  pub next_is : next ≡ first_or after None

-- the list of p is another one now, the lists of all other owners are the same
pub record Relists (ends : List Ends) (links : List Link) (p : ℕ) (ks : List ℕ) (new_ends : List Ends) (new_links : List Link) : Type 0 where
  pub kept : AreKept new_ends new_links
  pub list : listed new_ends new_links p ≡ ks
  pub others : (q : ℕ) → q ≢ p → listed new_ends new_links q ≡ listed ends links q
  pub owners : length new_ends ≡ length ends
  pub members : length new_links ≡ length links
