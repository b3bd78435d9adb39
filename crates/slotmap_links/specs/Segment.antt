-- A part of a list that is kept as links: what an iterator along the links has left.
use Rattle.std.specs.Prelude.{◌≡◌, ◌<◌, ◌≤◌, ℕ, None, List, ◌∷◌, ◌++◌, length}
use Rattle.slotmap_links.specs.Linked.{link_between}
use Rattle.slotmap_links.specs.Kept.{link_at, unless_nobody}
use Rattle.slotmap_links.specs.Lists.{first_or, last_or, times}
use Rattle.slotmap_links.specs.declared.Link.{Link}

-- so many members are left, from the first to the last, with those before them and after them in the list
pub record IsSegment (links : List Link) (left first last : ℕ) : Type 0 where
  pub before : List ℕ
  pub ahead : List ℕ
  pub after : List ℕ
  pub links_are : (b : List ℕ) (k : ℕ) (a : List ℕ) → before ++ (ahead ++ after) ≡ b ++ k ∷ a → link_at links k ≡ link_between b a
  pub left_is : left ≡ length ahead
  pub first_is : unless_nobody first ≡ first_or (ahead ++ after) None
  pub last_is : unless_nobody last ≡ last_or (before ++ ahead) None
  pub below : (k : ℕ) → 0 < times k ahead → k < length links

-- all members from a place of a list on are left, so no more than there are
pub record IsTail (links : List Link) (first : ℕ) : Type 0 where
  pub before : List ℕ
  pub ahead : List ℕ
  pub links_are : (b : List ℕ) (k : ℕ) (a : List ℕ) → before ++ ahead ≡ b ++ k ∷ a → link_at links k ≡ link_between b a
  pub few : length ahead ≤ length links
  pub first_is : unless_nobody first ≡ first_or ahead None
  pub below : (k : ℕ) → 0 < times k ahead → k < length links
