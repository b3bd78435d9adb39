-- What callers cite: what the calls leave of each list.
use Rattle.std.proofs.Common.{◌≡◌, ◌≢◌, ℕ, ◌<◌, ◌-◌, List, [], length, ap, ◌∙◌, arith}
use Rattle.std.proofs.lemmas.List.{length-set, get_or-set_same, get_or-set_other}
use Rattle.slotmap_links.specs.Lists.{Lists, times, list_of, with_list, with_owners, IsFree, IsIn, AreDisjoint, without}
use Rattle.slotmap_links.proofs.Counts.{same_or_other, times_gone, without_none}
use Rattle.slotmap_links.proofs.KeptLists.{read_padded}

-- where the list of p is another one, all others stay
module _ (s : Lists) (p : ℕ) (ks : List ℕ) where
  pub list_now : p < length s.lists → list_of (with_list s p ks) p ≡ ks
  list_now there = get_or-set_same s.lists p ks [] there

  pub list_other : (q : ℕ) → q ≢ p → list_of (with_list s p ks) q ≡ list_of s q
  list_other q other = get_or-set_other s.lists p q ks [] other

  pub owners_stay : length (with_list s p ks).lists ≡ length s.lists
  owners_stay = length-set s.lists p ks

-- new owners change no list
pub list_covered : (s : Lists) (n q : ℕ) → list_of (with_owners s n) q ≡ list_of s q
list_covered s n q = read_padded s.lists (n - length s.lists) q []

-- k is taken out of the list of p, and so of all lists
module _ (s : Lists) (disjoint : AreDisjoint s) (p k : ℕ) (there : p < length s.lists) (inside : IsIn s p k) where
  pub list_without : (q : ℕ) → list_of (with_list s p (without k (list_of s p))) q ≡ without k (list_of s q)
  list_without q = grind (
    arith,
    same_or_other q p,
    list_now s p (without k (list_of s p)) there,
    list_other s p (without k (list_of s p)) q,
    without_none k (list_of s q),
    disjoint.alone q p k,
  )

  -- it is free then
  pub taken_free : IsFree (with_list s p (without k (list_of s p))) k
  taken_free = record { within = disjoint.within p k inside; nowhere = λ q. ap (times k) (list_without q) ∙ times_gone k (list_of s q) }
