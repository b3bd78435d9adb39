-- That a list of what is found is no longer than the list of what was looked up.
use Rattle.std.proofs.Common.{ℕ, suc, ◌≤◌, Option, Some, None, List, [], ◌∷◌, length, arith}
use Rattle.std.specs.List.{filter_map, cons_option}

module _ {X Y : Type 0} (h : X → Option Y) where
  one_more : (o : Option Y) (ys : List Y) (n : ℕ) → length ys ≤ n → length (cons_option o ys) ≤ suc n
  one_more None ys n less = omega (arith, less)
  one_more (Some y) ys n less = omega (arith, less)

  pub found_less : (xs : List X) → length (filter_map h xs) ≤ length xs
  found_less [] = omega arith
  found_less (x ∷ xs) = one_more (h x) (filter_map h xs) (length xs) (found_less xs)
