-- Lists of numbers that are kept as links: each owner has the ends of its list, and each number in a list its two neighbours.
use Rattle.std.specs.Prelude.{◌≡◌, ◌≢◌, ◌<◌, ◌≤◌, ℕ, zero, suc, Option, Some, None, List, [], ◌∷◌, ◌++◌, length}
use Rattle.slotmap_links.specs.Lists.{times, first_or, last_or}

-- the two ends of a list, and how many numbers it has
pub record Bounds : Type 0 where
  pub first : Option ℕ
  pub last : Option ℕ
  pub len : ℕ

-- the numbers before and after another one in a list
pub record Neighbours : Type 0 where
  pub prev : Option ℕ
  pub next : Option ℕ

-- the ends of a list
abbrev pub ends_of : List ℕ → Bounds
ends_of ks = record { first = first_or ks None; last = last_or ks None; len = length ks }

-- the neighbours of a place between these numbers
abbrev pub link_between : List ℕ → List ℕ → Neighbours
link_between before after = record { prev = last_or before None; next = first_or after None }

-- so many numbers from this one on, each by the link of the one before it
abbrev pub follow : (ℕ → Neighbours) → ℕ → Option ℕ → List ℕ
follow link zero at = []
follow link (suc n) None = []
follow link (suc n) (Some k) = k ∷ follow link n (link k).next

-- the list with these ends
abbrev pub followed : (ℕ → Neighbours) → Bounds → List ℕ
followed link ends = follow link ends.len ends.first

-- each owner's list has these ends, and each number in it these neighbours
pub record AreLinked (ends : ℕ → Bounds) (link : ℕ → Neighbours) (lists : ℕ → List ℕ) : Type 0 where
  pub ends_are : (p : ℕ) → ends p ≡ ends_of (lists p)
  pub links_are : (p : ℕ) (before : List ℕ) (k : ℕ) (after : List ℕ) → lists p ≡ before ++ k ∷ after → link k ≡ link_between before after

-- each number is in one list at most, and there once
pub record AreApart (lists : ℕ → List ℕ) : Type 0 where
  pub once : (p k : ℕ) → times k (lists p) ≤ 1
  pub alone : (p q k : ℕ) → 0 < times k (lists p) → 0 < times k (lists q) → p ≡ q

-- this list is the one of p now, with its ends, and all other owners have theirs as before
pub record IsListed (old new : ℕ → List ℕ) (old_ends new_ends : ℕ → Bounds) (p : ℕ) (ks : List ℕ) : Type 0 where
  pub list : new p ≡ ks
  pub ends : new_ends p ≡ ends_of ks
  pub others : (q : ℕ) → q ≢ p → new q ≡ old q
  pub other_ends : (q : ℕ) → q ≢ p → new_ends q ≡ old_ends q
