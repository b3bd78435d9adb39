-- How many entries of a heap are due, at a place and below it.
use Rattle.std.proofs.Common.{◌&&◌, ◌*◌, ◌+◌, ◌<◌, ◌≡◌, ◌≤◌}
use Rattle.slotmap_scheduler.proofs.Common.{Bool, Entry, IsHeap, List, ap, arith, cond, count_below, false, get_or, get_or_default, is_due_at, is_under, length, nat_eq, nat_lt, nat_tests, no_entry}
use Rattle.slotmap_scheduler.proofs.Common.{refl, suc, true, turn_at, up, zero, ℕ}
use Rattle.slotmap_scheduler.proofs.Order.{time_up_to}
unfoldable use Rattle.slotmap_scheduler.proofs.Common.{due_under}

-- a place below another comes after it
under_after : (steps at c : ℕ) → is_under steps at c ≡ true → at ≤ c
under_after zero at c is = grind (arith, nat_tests)
under_after (suc steps) at c is = grind (arith, nat_tests, under_after steps at (up c))

pub under_top : (steps c : ℕ) → c ≤ steps → is_under steps 0 c ≡ true
under_top zero c within = grind (arith, nat_tests)
under_top (suc steps) c within = grind (arith, nat_tests, under_top steps (up c))

abbrev one : Bool → ℕ
one b = cond b 1 0

-- a place at or below another is that one, or at or below one of the two next below it
under_split : (steps at c : ℕ) → c ≤ steps
    → one (is_under steps at c) ≡ one (nat_eq c at) + (one (is_under steps (2 * at + 1) c) + one (is_under steps (2 * at + 2) c))
under_split zero at c within = grind (arith, nat_tests)
under_split (suc steps) at c within = grind (arith, under_split steps at (up c), under_after steps at (up c), under_after steps (2 * at + 1) (up c), under_after steps (2 * at + 2) (up c))

count-le : (p : ℕ → Bool) (n : ℕ) → count_below p n ≤ n
count-le p zero = omega arith
count-le p (suc n) = grind (arith, count-le p n)

count_none : (p : ℕ → Bool) (n : ℕ) → ((c : ℕ) → c < n → p c ≡ false) → count_below p n ≡ 0
count_none p zero none = refl
count_none p (suc n) none = grind (arith, none n, count_none p n (λ c less. none c (omega arith)))

pub count_alike : (p q : ℕ → Bool) (n : ℕ) → ((c : ℕ) → c < n → p c ≡ q c) → count_below p n ≡ count_below q n
count_alike p q zero same = refl
count_alike p q (suc n) same = grind (arith, same n, count_alike p q n (λ c less. same c (omega arith)))

module _ (now : ℕ) (heap : List Entry) (ordered : IsHeap heap) where
  -- below an entry that isn't due none is
  none_below : (steps at c : ℕ) → now < (turn_at heap at).0 → c < length heap → is_under steps at c ≡ true → now < (turn_at heap c).0
  none_below zero at c later inside under = grind (arith, nat_tests)
  none_below (suc steps) at c later inside under = grind (arith, time_up_to (turn_at heap (up c)) (turn_at heap c), none_below steps at (up c))

  abbrev counted : ℕ → ℕ → Bool
  counted at c = is_under (length heap) at c && is_due_at now heap c

  -- an entry that is due, and those that are due below it
  module _ (at : ℕ) (due : is_due_at now heap at ≡ true) where
    step : (m : ℕ) → m < length heap → one (counted at m) ≡ one (nat_eq m at) + (one (counted (2 * at + 1) m) + one (counted (2 * at + 2) m))
    step m inside = grind (arith, nat_tests, under_split (length heap) at m)

    below_split : (m : ℕ) → m ≤ length heap
        → count_below (counted at) m ≡ one (nat_lt at m) + (count_below (counted (2 * at + 1)) m + count_below (counted (2 * at + 2)) m)
    below_split zero inside = grind (arith, nat_tests)
    below_split (suc m) inside = grind (arith, nat_tests, step m, below_split m)

  -- past the end of the heap, and below an entry that isn't due, none is
  pub none_past : (at : ℕ) → length heap ≤ at → due_under now at heap ≡ 0
  unfolding due_under
  none_past at past = count_none (counted at) (length heap) (λ c inside. grind (arith, nat_tests, under_after (length heap) at c))

  module _ (at : ℕ) (d : Entry) (inside : at < length heap) where
    read : (turn_at heap at) ≡ (get_or heap at d).turn
    read = ap (λ (e : Entry). e.turn) (get_or_default heap at no_entry d inside)

    pub none_under : now < (get_or heap at d).turn.0 → due_under now at heap ≡ 0
    unfolding due_under
    none_under later =
        let later_at : now < (turn_at heap at).0 = rw read later in
        count_none (counted at) (length heap) (λ c within. grind (arith, nat_tests, none_below (length heap) at c later_at))

    -- one that is due counts, with those below it
    pub due_split : (get_or heap at d).turn.0 ≤ now → due_under now at heap ≡ 1 + (due_under now (2 * at + 1) heap + due_under now (2 * at + 2) heap)
    unfolding due_under
    due_split due =
        let due_at : (turn_at heap at).0 ≤ now = rw read due in
        grind (arith, nat_tests, below_split at (grind (arith, nat_tests)) (length heap) (omega arith))

  pub due-le : (at : ℕ) → due_under now at heap ≤ length heap
  unfolding due_under
  due-le at = count-le (counted at) (length heap)
