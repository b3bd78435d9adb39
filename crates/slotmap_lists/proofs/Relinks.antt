-- A number that is taken out of a list of numbers, and put into another one.
use Rattle.slotmap_lists.proofs.Common.{length, ◌∙◌, ℕ, List, inl, inr, ap, arith, sym, list_now, list_other, owners_stay, same_or_not, one_itself, one_other, times_first, times_joined}
use Rattle.slotmap_lists.proofs.Common.{times_gone, times_without, Lists, list_of, with_list, times, one_if}
use Rattle.std.proofs.Common.{◌≡◌, ◌≢◌, ◌<◌, ◌≤◌, ◌∷◌, ◌++◌, refl}
use Rattle.slotmap_links.specs.Lists as numbers

pub one_most : (a b : ℕ) → one_if a b ≤ 1
one_most a b = grind (arith, same_or_not a b, one_itself a, one_other a b)

-- i is so often in each list now, and all other numbers are where they were
pub record Relinks (s t : Lists) (i : ℕ) (often : ℕ → ℕ) : Type 0 where
  pub others : (p j : ℕ) → j ≢ i → times j (list_of t p) ≡ times j (list_of s p)
  pub here : (p : ℕ) → times i (list_of t p) ≡ often p
  pub members : t.members ≡ s.members
  pub owners : length t.lists ≡ length s.lists

-- i is taken out of the list h, the only one that it was in
pub relinks_taken : (s : Lists) (h i : ℕ) → h < length s.lists → ((p : ℕ) → p ≢ h → times i (list_of s p) ≡ 0)
    → Relinks s (with_list s h (numbers.without i (list_of s h))) i (λ p. 0)
relinks_taken s h i there none = record {
  others = λ p j other. elim (same_or_not p h) [
    | inl is ↦ rw is (ap (times j) (list_now s h (numbers.without i (list_of s h)) there) ∙ times_without i j (list_of s h) other)
    | inr apart ↦ ap (times j) (list_other s h (numbers.without i (list_of s h)) p apart)
  ];
  here = λ p. elim (same_or_not p h) [
    | inl is ↦ rw is (ap (times i) (list_now s h (numbers.without i (list_of s h)) there) ∙ times_gone i (list_of s h))
    | inr apart ↦ ap (times i) (list_other s h (numbers.without i (list_of s h)) p apart) ∙ none p apart
  ];
  members = refl;
  owners = owners_stay s h (numbers.without i (list_of s h));
}

-- i is put into the list q, and was in none
pub relinks_put : (s : Lists) (q i : ℕ) (before after : List ℕ) → q < length s.lists → list_of s q ≡ before ++ after → ((p : ℕ) → times i (list_of s p) ≡ 0)
    → Relinks s (with_list s q (before ++ i ∷ after)) i (one_if q)
relinks_put s q i before after there split none = record {
  others = λ p j other. elim (same_or_not p q) [
    | inl is ↦ rw is (omega (
      arith,
      ap (times j) (list_now s q (before ++ i ∷ after) there),
      ap (times j) split,
      times_joined j before (i ∷ after),
      times_joined j before after,
      times_first j i after,
      one_other i j (λ e. other (sym e)),
    ))
    | inr apart ↦ ap (times j) (list_other s q (before ++ i ∷ after) p apart)
  ];
  here = λ p. elim (same_or_not p q) [
    | inl is ↦ rw is (omega (
      arith,
      ap (times i) (list_now s q (before ++ i ∷ after) there),
      ap (times i) split,
      none q,
      times_joined i before (i ∷ after),
      times_joined i before after,
      times_first i i after,
      one_itself i,
      one_itself q,
    ))
    | inr apart ↦ omega (arith, ap (times i) (list_other s q (before ++ i ∷ after) p apart), none p, one_other q p (λ e. apart (sym e)))
  ];
  members = refl;
  owners = owners_stay s q (before ++ i ∷ after);
}

pub relinks_then : (s t u : Lists) (i : ℕ) (m n : ℕ → ℕ) → Relinks s t i m → Relinks t u i n → Relinks s u i n
relinks_then s t u i m n first next = record {
  others = λ p j other. next.others p j other ∙ first.others p j other;
  here = next.here;
  members = next.members ∙ first.members;
  owners = next.owners ∙ first.owners;
}
