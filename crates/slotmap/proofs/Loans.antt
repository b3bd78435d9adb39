-- What a structure over a map owes once a returned `&mut` ends: the same on both sides of an equation.
use Rattle.std.proofs.Common.{◌≡◌, ◌⊎◌, inl, inr}

-- a reference is lent, and what is made of the value that is written is the same
pub same_lent : {N A B : Type 0} (n : N) (f g : A → B) → ((w : A) → f w ≡ g w) → ◌≡◌ {A = (N × (A → B)) ⊎ B} (inl (n, f)) (inl (n, g))
same_lent n f g same = λ i. inl (n, λ w. same w i)

-- no reference is lent
pub same_unlent : {N B : Type 0} (a b : B) → a ≡ b → ◌≡◌ {A = N ⊎ B} (inr a) (inr b)
same_unlent a b same = λ i. inr (same i)
