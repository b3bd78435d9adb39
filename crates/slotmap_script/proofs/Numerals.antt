-- What std's `parse` reads, in the words of lines.
use Rattle.std.proofs.Common.{◌≡◌, ◌≢◌, ◌+◌, ◌^◌, ◌<◌, ◌≤◌, ℕ, ℤ, pos, neg_ℤ, true, false, ◌&&◌, List, [], ◌∷◌, length, get_or, drop, Some, None, Result}
use Rattle.std.proofs.Common.{Ok, Err, ap, sym, ◌∙◌, refl, arith, inl, inr}
use Rattle.std.specs.{Prelude.option_map, Char.is_ascii_digit, List.list_all, Result.OkIff, Result.result_ok, Str.all_ascii_digits, Int.w32}
use Rattle.std.specs.Str.Parse.{digits_value, ParsesUnsigned, ParsesSigned}
use Rattle.std.proofs.lemmas.Bool.{cases_eq}
use Rattle.std.proofs.lemmas.Bool.Decides.{nat_tests}
use Rattle.std.proofs.lemmas.Str.Parse.{IsNumeralModel, numerals_by_value, tells_all_ascii_digits, parse_digits, parse_signed_plain, parse_signed_minus}
use Rattle.slotmap_script.specs.CommandText.{numeral_below, word_number}

numerals : IsNumeralModel (λ ds. all_ascii_digits ds ≡ true) (digits_value 10)
numerals = numerals_by_value _ tells_all_ascii_digits

pub all_digits_is : (bs : List ℕ) → list_all is_ascii_digit bs ≡ all_ascii_digits bs
all_digits_is [] = refl
all_digits_is (b ∷ bs) = ap (λ t. is_ascii_digit b && t) (all_digits_is bs)

-- a numeral below the limit, by tests
below : (limit : ℕ) (ds : List ℕ) → all_ascii_digits ds ≡ true → 0 < length ds → digits_value 10 ds < limit → numeral_below limit ds ≡ Some (digits_value 10 ds)
below limit ds digits some small = grind (arith, nat_tests)

not_below : (limit : ℕ) (ds : List ℕ) → ((all_ascii_digits ds ≡ true) × (0 < length ds) × (digits_value 10 ds < limit) → ⊥) → numeral_below limit ds ≡ None
not_below limit ds none = grind (arith, nat_tests)

-- text with another byte is no numeral
pub no_digits : (limit : ℕ) (ds : List ℕ) → all_ascii_digits ds ≡ false → numeral_below limit ds ≡ None
no_digits limit ds other = grind (arith, nat_tests)

-- `parse` at an unsigned type reads a numeral
pub unsigned_is : {E : Type 0} (k : ℕ) (bs : List ℕ) (r : Result ℕ E) → ParsesUnsigned k 10 bs r → all_ascii_digits bs ≡ true → result_ok r ≡ numeral_below (2 ^ k) bs
unsigned_is {E} k bs (Ok x) h digits = let is = parse_digits numerals {E = E} k bs (Ok x) h digits in ap Some is.1 ∙ sym (below (2 ^ k) bs digits is.0.0 is.0.1)
unsigned_is {E} k bs (Err e) h digits = let is = parse_digits numerals {E = E} k bs (Err e) h digits in sym (not_below (2 ^ k) bs (λ all. is (all.1, all.2)))

ok_below : {T E : Type 0} (f : ℕ → T) (limit : ℕ) (ds : List ℕ) (r : Result T E)
    → OkIff r ((all_ascii_digits ds ≡ true) × (0 < length ds) × (digits_value 10 ds < limit)) (f (digits_value 10 ds)) → result_ok r ≡ option_map f (numeral_below limit ds)
ok_below f limit ds (Ok x) h = ap Some h.1 ∙ ap (option_map f) (sym (below limit ds h.0.0 h.0.1 h.0.2))
ok_below f limit ds (Err e) h = ap (option_map f) (sym (not_below limit ds h))

not_at_most : (P Q : Type 0) (n m : ℕ) → (P × Q × (n ≤ m) → ⊥) → P × Q × (n < m + 1) → ⊥
not_at_most P Q n m h k = h (k.0, k.1, omega (arith, k.2))

at_most_below : {T E : Type 0} (P Q : Type 0) (n m : ℕ) (v : T) (r : Result T E) → OkIff r (P × Q × (n ≤ m)) v → OkIff r (P × Q × (n < m + 1)) v
at_most_below P Q n m v (Ok x) h = ((h.0.0, h.0.1, omega (arith, h.0.2)), h.1)
at_most_below P Q n m v (Err e) h = not_at_most P Q n m h

with_minus : (bs : List ℕ) → get_or bs 0 0 ≡ 45 → word_number bs ≡ option_map (λ n. neg_ℤ (pos n)) (numeral_below (2 ^ 31 + 1) (drop 1 bs))
with_minus bs h = grind (arith, nat_tests)

without_minus : (bs : List ℕ) → get_or bs 0 0 ≢ 45 → word_number bs ≡ option_map pos (numeral_below (2 ^ 31) bs)
without_minus bs h = grind (arith, nat_tests)

-- `parse` at `i32` reads a number, unless the text begins with a plus
pub signed_is : {E : Type 0} (bs : List ℕ) (r : Result ℤ E) → ParsesSigned w32 10 bs r → get_or bs 0 0 ≢ 43 → result_ok r ≡ word_number bs
signed_is {E} bs r h plain = elim (cases_eq (get_or bs 0 0) 45) [
  | inl minus ↦ ok_below (λ n. neg_ℤ (pos n)) (2 ^ 31 + 1) (drop 1 bs) r (at_most_below _ _ _ _ _ r (parse_signed_minus numerals {E = E} w32 bs r h minus)) ∙ sym (with_minus bs minus)
  | inr none ↦ ok_below pos (2 ^ 31) bs r (parse_signed_plain numerals {E = E} w32 bs r h plain none) ∙ sym (without_minus bs none)
]

plus_is_no_digit : (bs : List ℕ) → get_or bs 0 0 ≡ 43 → all_ascii_digits bs ≡ false
plus_is_no_digit [] h = absurd (omega (arith, h))
plus_is_no_digit (b ∷ bs) h = rw h refl

-- a number has no plus
pub no_plus : (bs : List ℕ) → get_or bs 0 0 ≡ 43 → word_number bs ≡ None
no_plus bs h = without_minus bs (λ e. omega (arith, e, h)) ∙ ap (option_map pos) (no_digits (2 ^ 31) bs (plus_is_no_digit bs h))
