-- What calls of `next` of a drain keep, and what they yield, whatever one step is.
-- For the crates of maps.
use Rattle.std.proofs.Common.{◌≡◌, List, [], ◌∷◌, Option, Some, refl, ap, subst, ◌∙◌}
use Rattle.slotmap_core.specs.Words.{MutBor, Key, key_cmp, KeepsLoan, Along, KeepsAlong, ListsAlong, InOrderAlong}
use Rattle.slotmap_core.proofs.General.ListingLemmas.{IsListingBut-start, IsListingBut-first}
use Rattle.std.specs.FinMap as map

module _ {D A : Type 0} (Steps : D → Option A → D → Type 0) where
  -- what holds before any step, and still holds with one more step in front, holds along all steps
  pub along : (R : D → List A → D → Type 0) → ((d : D) → R d [] d)
      → ((a b c : D) (item : A) (items : List A) → Steps a (Some item) b → R b items c → R a (item ∷ items) c) → (first : D) → Along Steps R first
  along R none step first [] later run = subst (R first []) run (none first)
  along R none step first (item ∷ items) later run = step first run.0 later item items run.1 (along R none step run.0 items later run.2)

  -- what holds of a drain and itself, and what a step keeps, holds along all steps
  pub kept_along : (R : D → D → Type 0) → ((d : D) → R d d) → ((a b c : D) (item : A) → Steps a (Some item) b → R b c → R a c) → (first : D) → KeepsAlong Steps R first
  kept_along R same step = along (λ first items later. R first later) same (λ a b c item _. step a b c item)

  -- a loan that each step keeps is kept along all steps
  pub loan_along : {C E : Type 0} (loan : D → MutBor C) (Ends : C → E → Type 0) → ((a b : D) (item : A) → Steps a (Some item) b → KeepsLoan loan Ends a b)
      → (first : D) → KeepsAlong Steps (KeepsLoan loan Ends) first
  loan_along loan Ends keeps =
      kept_along (KeepsLoan loan Ends) (λ d. (refl, λ end ends. ends)) (λ a b c item step rest. let kept = keeps a b item step in (rest.0 ∙ kept.0, λ end ends. kept.1 end (rest.1 end ends)))

module _ {D K V : Type 0} (data_of : K → Key) (live : D → map.FinMap key_cmp V) (Steps : D → Option (K × V) → D → Type 0) where
  -- where each step takes out a live pair, the pairs that were yielded and those that are left are those of the map
  pub lists_along : ((a b : D) (pair : K × V) → Steps a (Some pair) b → (map.get (live a) (data_of pair.0) ≡ Some pair.1) × (live b ≡ map.remove (live a) (data_of pair.0)))
      → (first : D) → ListsAlong data_of live Steps first
  lists_along takes =
      along Steps _ (λ d. IsListingBut-start (live d))
      (λ a b c pair pairs step rest. let took = takes a b pair step in IsListingBut-first (live a) (live c) _ (data_of pair.0) pair.1 took.0 (rw took.1 at rest))

  -- where each step takes the first entry, the pairs that were yielded come before those that are left
  pub in_order_along : ((a b : D) (pair : K × V) → Steps a (Some pair) b → map.entries (live a) ≡ (data_of pair.0, pair.1) ∷ map.entries (live b))
      → (first : D) → InOrderAlong data_of live Steps first
  in_order_along takes = along Steps _ (λ d. refl) (λ a b c pair pairs step rest. takes a b pair step ∙ ap (λ es. (data_of pair.0, pair.1) ∷ es) rest)
