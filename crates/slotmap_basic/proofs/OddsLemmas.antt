-- Chunks of versions, whose odd ones are bits.
use native.Mathlib.Decide.{dec_lt}
use Rattle.std.proofs.Common.{◌≡◌, ◌≢◌, ◌+◌, ◌-◌, ◌*◌, ◌/◌, ◌%◌, ◌^◌, ◌<◌, ◌≤◌, ℕ, zero, suc, List, cond, eqb, length, get_or, slice_get, Some, sym, ap}
use Rattle.slotmap_core.proofs.Common.{arith, bit_at-zero, bit_at-suc, bit_at_lowest, bit_at_and, bit_at_set_same, bit_at_set_other, bit_at_ones, get_or_from_slice_get, slice_get_within, found_within}
use Rattle.slotmap_core.proofs.Common.{bit_at, ◌∙◌, w64, bit_and, bit_or, min, max, subst}
use Rattle.slotmap_basic.specs.Columns.{AllEven, IsNextOdd}
use Rattle.slotmap_basic.specs.Odds.{AreOdd, AllOdd, IsRun, IsFound, HasOdds, IsAhead}
use lib.Bits.{and_mask}
use lib.ListN.{get_or-eq_default}

-- ---- a lane
not_zero : (r : ℕ) → r < 2 → 1 - cond {A = ℕ} (eqb r 0) 1 0 ≡ r
not_zero r h = grind arith

pub odd_lane : (x : ℕ) → 1 - cond {A = ℕ} (eqb (bit_and x 1) 0) 1 0 ≡ x % 2
odd_lane x = ap (λ r. 1 - cond (eqb r 0) 1 0) (and_mask x 1) ∙ not_zero (x % 2) (omega arith)

-- ---- bits that are set one by one
pub record Below (versions : List ℕ) (at lane bits : ℕ) : Type 0 where
  pub set : (k : ℕ) → k < lane → bit_at bits k ≡ get_or versions (at + k) 0 % 2
  pub clear : (k : ℕ) → lane ≤ k → bit_at bits k ≡ 0

module _ (versions : List ℕ) (at lane bits : ℕ) (below : Below versions at lane bits) where
  pub below_odd : lane < 64 → get_or versions (at + lane) 0 % 2 ≡ 1 → Below versions at (lane + 1) (bit_or bits (1 * 2 ^ lane % 2 ^ 64))
  below_odd within odd = record {
    set = λ k l. grind (arith, bit_at_set_other w64 bits lane within k, bit_at_set_same w64 bits lane within, below.set k);
    clear = λ k l. bit_at_set_other w64 bits lane within k (λ e. omega arith) ∙ below.clear k (omega arith);
  }

  pub below_even : (get_or versions (at + lane) 0 % 2 ≡ 1 → ⊥) → Below versions at (lane + 1) bits
  below_even even = grind arith

-- ---- the lowest bit
half_same : (n : ℕ) → n % 2 ≡ 1 → (n - 1) / 2 ≡ n / 2
half_same n odd = omega arith

half_less : (n : ℕ) → n % 2 ≡ 0 → 0 < n → (n - 1) / 2 ≡ n / 2 - 1
half_less n even some = omega arith

has_bit : (n k : ℕ) → bit_at n k ≡ 1 → 0 < n
has_bit n k set = grind (arith, bit_at-zero k)

-- One less than a number with this lowest bit: the bit is clear, and all above it are the same
pub record OneLess (n lane : ℕ) : Type 0 where
  pub clear : bit_at (n - 1) lane ≡ 0
  pub above : (k : ℕ) → lane < k → bit_at (n - 1) k ≡ bit_at n k

above_odd : (n : ℕ) → n % 2 ≡ 1 → (k : ℕ) → 0 < k → bit_at (n - 1) k ≡ bit_at n k
above_odd n odd zero on = absurd (omega arith)
above_odd n odd (suc k) on = bit_at-suc (n - 1) k ∙ ap (λ m. bit_at m k) (half_same n odd) ∙ sym (bit_at-suc n k)

above_even : (n lane : ℕ) → (n - 1) / 2 ≡ n / 2 - 1 → OneLess (n / 2) lane → (k : ℕ) → suc lane < k → bit_at (n - 1) k ≡ bit_at n k
above_even n lane half rest zero on = absurd (omega arith)
above_even n lane half rest (suc k) on = bit_at-suc (n - 1) k ∙ ap (λ m. bit_at m k) half ∙ rest.above k (omega arith) ∙ sym (bit_at-suc n k)

one_less : (n lane : ℕ) → bit_at n lane ≡ 1 → ((k : ℕ) → k < lane → bit_at n k ≡ 0) → OneLess n lane
one_less n zero set below =
    let odd : n % 2 ≡ 1 = sym (bit_at_lowest n) ∙ set in record { clear = bit_at_lowest (n - 1) ∙ (let even : (n - 1) % 2 ≡ 0 = omega arith in even); above = λ k on. above_odd n odd k on }
one_less n (suc lane) set below =
    let even : n % 2 ≡ 0 = sym (bit_at_lowest n) ∙ below 0 (omega arith) in
    let half : (n - 1) / 2 ≡ n / 2 - 1 = half_less n even (has_bit n (suc lane) set) in
    let rest = one_less (n / 2) lane (sym (bit_at-suc n lane) ∙ set) (λ k l. sym (bit_at-suc n k) ∙ below (suc k) (omega arith)) in
    record {
      clear = bit_at-suc (n - 1) lane ∙ ap (λ m. bit_at m lane) half ∙ rest.clear;
      above = λ k on. above_even n lane half rest k on;
    }

-- a number and one less have no bits in common up to the lowest, and all above it
without_one : (n lane : ℕ) → n < 2 ^ 64 → bit_at n lane ≡ 1 → ((k : ℕ) → k < lane → bit_at n k ≡ 0)
    → (k : ℕ) → bit_at (bit_and n ((n + (2 ^ 64 - 1)) % 2 ^ 64)) k ≡ min (bit_at n k) (bit_at (n - 1) k)
without_one n lane fits set below k = grind (arith, has_bit, bit_at_and)

module _ (n lane : ℕ) (fits : n < 2 ^ 64) (set : bit_at n lane ≡ 1) (below : (k : ℕ) → k < lane → bit_at n k ≡ 0) where
  pub lowest_gone : bit_at (bit_and n ((n + (2 ^ 64 - 1)) % 2 ^ 64)) lane ≡ 0
  lowest_gone = omega (arith, without_one n lane fits set below lane, (one_less n lane set below).clear)

  pub others_kept : (k : ℕ) → k ≢ lane → bit_at (bit_and n ((n + (2 ^ 64 - 1)) % 2 ^ 64)) k ≡ bit_at n k
  others_kept k apart = grind (arith, without_one n lane fits set below k, below k, (one_less n lane set below).above k)

-- ---- the next odd version
-- only a version that is there is odd
pub odd_within : (versions : List ℕ) (i : ℕ) → get_or versions i 0 % 2 ≡ 1 → i < length versions
odd_within versions i odd = elim (dec_lt i (length versions)) [ yes p ↦ p | no p ↦ absurd (let e : get_or versions i 0 ≡ 0 = get_or-eq_default versions 0 (omega arith) in omega arith) ]

module _ (versions : List ℕ) (end index bits : ℕ) (has : HasOdds versions end index bits) where
  -- a version of the chunk is even where its bit is not set
  even_at : (i v : ℕ) → index ≤ i → end ≤ i + 64 → i < end → slice_get versions i ≡ Some v → ((k : ℕ) → i + 64 ≡ end + k → bit_at bits k ≡ 0) → v % 2 ≡ 0
  even_at i v from on below at clear =
      let k = i + 64 - end in let e : i + 64 ≡ end + k = omega arith in ap (λ x. x % 2) (sym (get_or_from_slice_get versions i v 0 at)) ∙ sym (has.odd i k (omega arith) e from) ∙ clear k e

  module _ (lane : ℕ) (bound : lane < 64) (set : bit_at bits lane ≡ 1) (below : (k : ℕ) → k < lane → bit_at bits k ≡ 0) where
    -- the version's index doesn't fall below 0
    pub odds_on : index + 64 ≤ end + lane
    odds_on = elim (dec_lt (end + lane) (index + 64)) [ yes p ↦ absurd (let e : ◌≡◌ {A = ℕ} 1 0 = sym set ∙ has.passed lane p in omega arith) | no p ↦ omega arith ]

    module _ (found : ℕ) (is : found + 64 ≡ end + lane) where
      there : get_or versions found 0 % 2 ≡ 1
      there = sym (has.odd found lane bound is (omega (arith, odds_on))) ∙ set

      within : found < length versions
      within = odd_within versions found there

      pub odds_next : IsNextOdd versions index found
      odds_next = grind (arith, odds_on, within, even_at, get_or_from_slice_get, there)

      pub odds_step : (rest : ℕ) → bit_at rest lane ≡ 0 → ((k : ℕ) → k < 64 → k ≢ lane → bit_at rest k ≡ bit_at bits k) → HasOdds versions end (found + 1) rest
      odds_step rest gone kept = grind (arith, within, odds_on)

-- no version is left in a chunk of which no bit is left
pub none_left : (versions : List ℕ) (end index bits : ℕ) → HasOdds versions end index bits → bits ≡ 0 → AllEven versions index end
none_left versions end index bits has none i v on below at = elim (dec_lt (i + 64) end) [
  | yes p ↦ has.before i v on p at
  | no p ↦ even_at versions end index bits has i v on (omega arith) (omega arith) at (λ k e. ap (λ b. bit_at b k) none ∙ bit_at-zero k)
]

-- even versions are passed
pub passed_to : (versions : List ℕ) (i j n : ℕ) → AllEven versions i j → AllEven versions j n → AllEven versions i n
passed_to versions i j n first then k v on below at = elim (dec_lt k j) [ yes p ↦ first k v on p at | no p ↦ then k v (omega arith) below at ]

pub next_from : (versions : List ℕ) (i j found : ℕ) → i ≤ j → AllEven versions i j → IsNextOdd versions j found → IsNextOdd versions i found
next_from versions i j found on even next = record { on = omega (arith, next.on); within = next.within; passed = passed_to versions i j found even next.passed; odd = next.odd }

-- ---- the next chunk
pub odds_start : (versions : List ℕ) (i : ℕ) → i ≤ length versions → HasOdds versions i i 0
odds_start versions i within = grind (arith, bit_at-zero)

module _ (versions : List ℕ) (end index start : ℕ) (has : HasOdds versions end index 0) (from : index ≤ start) (to : start ≤ end)
    (next bits : ℕ) (found : IsFound versions start next bits) where
  pub odds_refill : HasOdds versions next index bits
  odds_refill = record {
    within = has.within;
    at = found.within;
    upto = omega (arith, found.on);
    before = λ i v on below at. elim (dec_lt i start) [
      | yes p ↦ elim (dec_lt (i + 64) end) [
        | yes q ↦ has.before i v on q at
        | no q ↦ even_at versions end index 0 has i v on (omega arith) (omega arith) at (λ k e. bit_at-zero k)
      ]
      | no p ↦ found.passed i v (omega arith) below at
    ];
    odd = λ i k l e on. found.odd i k l e (omega arith);
    passed = λ k l. absurd (omega (arith, found.on));
  }

  pub odds_last : bits ≡ 0 → AllEven versions index (length versions)
  odds_last none i v on below at = elim (dec_lt (i + 64) next) [
    | yes p ↦ odds_refill.before i v on p at
    | no p ↦ even_at versions next index bits odds_refill i v on (omega arith) (omega (arith, found.last none)) at (λ k e. ap (λ b. bit_at b k) none ∙ bit_at-zero k)
  ]

-- a chunk with no bit set has even versions alone
pub even_chunk : (versions : List ℕ) (end bits : ℕ) → AreOdd versions end 0 bits → bits ≡ 0 → (i v : ℕ) → end ≤ i + 64 → i < end → slice_get versions i ≡ Some v → v % 2 ≡ 0
even_chunk versions end bits odd none i v from below at =
    let k = i + 64 - end in
    ap (λ x. x % 2) (sym (get_or_from_slice_get versions i v 0 at)) ∙ sym (odd i k (omega arith) (omega arith) (omega arith)) ∙ ap (λ b. bit_at b k) none ∙ bit_at-zero k

-- ---- what is ahead of a loop
module _ (versions : List ℕ) (run end index bits : ℕ) (ahead : IsAhead versions run end index bits) where
  pub behind_run : run ≤ index → HasOdds versions end index bits
  behind_run past = subst (λ m. HasOdds versions end m bits) (let same : max index run ≡ index = omega (arith, past) in same) ahead.behind

  run_next : index < run → IsNextOdd versions index index
  run_next before = grind (arith, within, odd_within, get_or_from_slice_get)

  run_step : index < run → IsAhead versions run end (index + 1) bits
  run_step before = grind arith

pub AllOdd-on : (versions : List ℕ) (start end : ℕ) → AllOdd versions start end → get_or versions end 0 % 2 ≡ 1 → AllOdd versions start (end + 1)
AllOdd-on versions start end odd one i from to = elim (dec_lt i end) [ yes p ↦ odd i from p | no p ↦ ap (λ j. get_or versions j 0 % 2) (let same : i ≡ end = omega arith in same) ∙ one ]

-- at a run that begins at the index
ahead_run : (versions : List ℕ) (run index : ℕ) → index < run → AllOdd versions index run → IsAhead versions run run index 0
ahead_run versions run index some odd = grind (arith, odds_start, odd_within)

module _ (versions : List ℕ) (at start end : ℕ) (run : IsRun versions at start end) where
  at_run : IsAhead versions end end start 0
  at_run = ahead_run versions end start run.some run.odd

  pub run_first : IsNextOdd versions at start
  run_first = next_from versions at start start run.on run.passed (run_next versions end end start 0 at_run run.some)

  pub run_ahead : IsAhead versions end end (start + 1) 0
  run_ahead = run_step versions end end start 0 at_run run.some

-- a chunk of odd versions alone
module _ (versions : List ℕ) (end index : ℕ) (on : index + 64 ≤ end) (has : HasOdds versions end index (2 ^ 64 - 1)) where
  full_odd : (i : ℕ) → end ≤ i + 64 → i < end → get_or versions i 0 % 2 ≡ 1
  full_odd i from to = let k = i + 64 - end in let e : i + 64 ≡ end + k = omega arith in sym (has.odd i k (omega arith) e (omega arith)) ∙ bit_at_ones 64 k (omega arith)

  pub full_run : IsRun versions index (end - 64) end
  full_run = record { on = omega arith; some = omega arith; passed = λ i v from below at. has.before i v from (omega arith) at; odd = λ i from to. full_odd i (omega arith) to }

-- other versions of which the same are odd ahead
module _ (versions other : List ℕ) (run end index bits : ℕ) (ahead : IsAhead versions run end index bits) (all : length other ≡ length versions)
    (same : (i : ℕ) → index ≤ i → get_or other i 0 % 2 ≡ get_or versions i 0 % 2) where
  even_too : (i v : ℕ) → index ≤ i → ((w : ℕ) → slice_get versions i ≡ Some w → w % 2 ≡ 0) → slice_get other i ≡ Some v → v % 2 ≡ 0
  even_too i v from even at =
      let there = found_within versions i (omega (arith, slice_get_within other i v at, all)) in
      ap (λ x. x % 2) (sym (get_or_from_slice_get other i v 0 at)) ∙ same i from ∙ ap (λ x. x % 2) (get_or_from_slice_get versions i there.0 0 there.1) ∙ even there.0 there.1

  pub ahead_same : IsAhead other run end index bits
  ahead_same = grind (arith, within, even_too)
