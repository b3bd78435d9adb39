-- Which words are which commands.
use Rattle.std.specs.Prelude.{◌≡◌, ◌<◌, refl, ℤ, pos, neg_ℤ, ℕ, ◌+◌, ◌%◌, ◌/◌, ◌^◌, Bool, ◌&&◌, List, [], ◌∷◌, length, drop, codes, if◌then◌else◌}
use Rattle.std.specs.Prelude.{nat_lt, Option, Some, None, option_map}
use Rattle.std.proofs.Common.{arith}
use Prim.Native.String.{String}
use Rattle.std.specs.Str.{all_ascii_digits, bytes_eq}
use Rattle.std.specs.Str.Parse.{digits_value, starts_with_minus}
use Rattle.slotmap_core.specs.Words.{Key, key_from}
use Rattle.slotmap_core.specs.declared.commands.Command.{Command}
use Rattle.slotmap_core.specs.declared.commands.Command.TheVariants as command
use Rattle.slotmap_core.specs.declared.commands.DetachCommand.{DetachCommand}
use Rattle.slotmap_core.specs.declared.commands.DetachCommand.TheVariants as detaching

-- these bytes are that text
abbrev pub says : List ℕ → String → Bool
says word text = bytes_eq word (codes text)

-- one decimal digit or more, and nothing else
abbrev pub is_numeral : List ℕ → Bool
is_numeral word = nat_lt 0 (length word) && all_ascii_digits word

-- the value of a numeral that is below a limit
abbrev pub numeral_below : ℕ → List ℕ → Option ℕ
numeral_below limit word = if is_numeral word && nat_lt (digits_value 10 word) limit then Some (digits_value 10 word) else None

-- a numeral, perhaps after a minus: a number of 32 bits
abbrev pub word_number : List ℕ → Option ℤ
word_number word =
    if starts_with_minus word then option_map (λ n. neg_ℤ (pos n)) (numeral_below (2 ^ 31 + 1) (drop 1 word))
    else option_map pos (numeral_below (2 ^ 31) word)

-- a numeral of 64 bits: a key as one number. Each number is that of a key, as `from_ffi` reads it
abbrev pub word_key : List ℕ → Option Key
word_key word = option_map (λ n. key_from (n % 2 ^ 32) (n / 2 ^ 32)) (numeral_below (2 ^ 64) word)

-- the command of these words, which every kind of map has
abbrev pub plain_of : List (List ℕ) → Option (Command Key ℤ)
plain_of (name ∷ []) =
    if says name "len" then Some command.Len else (
    if says name "keys" then Some command.Keys else (
    if says name "clear" then Some command.Clear else None))
plain_of (name ∷ word ∷ []) =
    if says name "insert" then option_map command.Insert (word_number word) else (
    if says name "get" then option_map command.Get (word_key word) else (
    if says name "remove" then option_map command.Remove (word_key word) else None))
plain_of _ = None

-- the key of one word and the number of another
abbrev pub reattach_of : Option Key → Option ℤ → Option (DetachCommand Key ℤ)
reattach_of (Some key) (Some value) = Some (detaching.Reattach key value)
reattach_of _ _ = None

-- the command of these words, for a kind of map whose keys can be detached
abbrev pub detachable_of : List (List ℕ) → Option (DetachCommand Key ℤ)
detachable_of (name ∷ word ∷ []) =
    if says name "detach" then option_map detaching.Detach (word_key word) else option_map detaching.Plain (plain_of (name ∷ word ∷ []))
detachable_of (name ∷ word ∷ value ∷ []) =
    if says name "reattach" then reattach_of (word_key word) (word_number value) else None
detachable_of words = option_map detaching.Plain (plain_of words)

-- no command has more than three words
pub plain_at_most_three : (words : List (List ℕ)) → 3 < length words → plain_of words ≡ None
plain_at_most_three [] long = absurd (omega arith)
plain_at_most_three (a ∷ []) long = absurd (omega arith)
plain_at_most_three (a ∷ b ∷ []) long = absurd (omega arith)
plain_at_most_three (a ∷ b ∷ c ∷ rest) long = refl

pub detachable_at_most_three : (words : List (List ℕ)) → 3 < length words → detachable_of words ≡ None
detachable_at_most_three [] long = absurd (omega arith)
detachable_at_most_three (a ∷ []) long = absurd (omega arith)
detachable_at_most_three (a ∷ b ∷ []) long = absurd (omega arith)
detachable_at_most_three (a ∷ b ∷ c ∷ []) long = absurd (omega arith)
detachable_at_most_three (a ∷ b ∷ c ∷ d ∷ rest) long = refl
