-- What callers of a scheduler cite: which jobs a loop over `pop_due` took out, which `retain` left, and that none is due sooner.
use Rattle.std.proofs.Common.{◌++◌, ◌<◌, ◌∷◌, ◌≡◌, ◌≤◌}
use Rattle.slotmap_scheduler.proofs.Common.{All, All-cons, All-head, All-nil, All-tail, IsByTime, Key, Waiting, [], ap, arith, due_at, in_turn, left_at, nat_tests, refl, sym, ℕ, ◌∙◌}
pub use Rattle.slotmap_scheduler.proofs.Retained.{retained_jobs, retained_where}
pub use Rattle.slotmap_scheduler.proofs.Visiting.{callable_on_jobs}

module _ {T : Type 0} (now : ℕ) where
  abbrev IsDue : Key × (ℕ × T) → Type 0
  IsDue e = e.1.0 ≤ now

  abbrev IsLater : Key × (ℕ × T) → Type 0
  IsLater e = now < e.1.0

  due_and_left : (ws : Waiting T) → ws ≡ due_at now ws ++ left_at now ws
  due_and_left [] = refl
  due_and_left (e ∷ ws) = grind (arith, due_and_left ws)

  all_due : (ws : Waiting T) → All IsDue (due_at now ws)
  all_due [] = All-nil IsDue
  all_due (e ∷ ws) = grind (arith, nat_tests, All-nil IsDue, All-cons IsDue, all_due ws)

  none_taken : (ws : Waiting T) → All IsLater ws → left_at now ws ≡ ws
  none_taken [] later = refl
  none_taken (e ∷ ws) later = let first = All-head IsLater e ws later in grind (arith, nat_tests)

  -- a loop whose invariant says that the same jobs are left at `now` took out those that are due, and no others
  pub due_taken : (old new : Waiting T) → left_at now new ≡ left_at now old → All (λ e. now < e.1.0) new → (due : Waiting T) × (old ≡ due ++ new) × All (λ e. e.1.0 ≤ now) due
  due_taken old new same later = (due_at now old, due_and_left old ∙ ap (λ ws. due_at now old ++ ws) (sym same ∙ none_taken new later), all_due old)

-- where no job is due before a time, none is once one more is scheduled for that time or later
module _ {T : Type 0} (time : ℕ) where
  abbrev NoSooner : Key × (ℕ × T) → Type 0
  NoSooner e = time ≤ e.1.0

  pub none_sooner : (x : Key × (ℕ × T)) (es : Waiting T) → time ≤ x.1.0 → All (λ e. time ≤ e.1.0) es → All (λ e. time ≤ e.1.0) (in_turn x es)
  none_sooner x [] low all = All-cons NoSooner x [] low all
  none_sooner x (e ∷ es) low all = grind (arith, All-cons NoSooner, All-head NoSooner e es all, none_sooner x es low (All-tail NoSooner e es all))

-- a job that is scheduled for later isn't due now
pub none_due_more : {T : Type 0} (now : ℕ) (x : Key × (ℕ × T)) (es : Waiting T) → now < x.1.0 → due_at now (in_turn x es) ≡ due_at now es
none_due_more now x [] later = grind (arith, nat_tests)
none_due_more now x (e ∷ es) later = grind (arith, nat_tests, none_due_more now x es later)

-- of two jobs that are taken out one after the other, the first is due no later
pub first_no_later : {T : Type 0} (a b : Key × (ℕ × T)) (es fs gs : Waiting T) → IsByTime es → es ≡ a ∷ fs → fs ≡ b ∷ gs → a.1.0 ≤ b.1.0
first_no_later {T} a b es fs gs sorted one two = grind arith
