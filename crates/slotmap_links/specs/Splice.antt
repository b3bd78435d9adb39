-- What is written where a number is put into a list that is kept as links, or taken out of it.
use Rattle.std.specs.Prelude.{ℕ, Option, Some, None, cond, nat_eq}
use Rattle.slotmap_links.specs.Linked.{Neighbours}

-- the links, where that of a number, if there is one, is changed
abbrev pub with_link : Option ℕ → (Neighbours → Neighbours) → (ℕ → Neighbours) → ℕ → Neighbours
with_link None change link q = link q
with_link (Some k) change link q = cond (nat_eq q k) (change (link q)) (link q)

-- it leads on to another next number, or back to another previous one
abbrev pub with_next : Option ℕ → Option ℕ → (ℕ → Neighbours) → ℕ → Neighbours
with_next at next link q = with_link at (λ n. record n { next = next }) link q

abbrev pub with_prev : Option ℕ → Option ℕ → (ℕ → Neighbours) → ℕ → Neighbours
with_prev at prev link q = with_link at (λ n. record n { prev = prev }) link q

-- an end of the list: the new one, where no number is between it and the place
abbrev pub own : Option ℕ → Option ℕ → Option ℕ → Option ℕ
own None old new = new
own (Some k) old new = old
