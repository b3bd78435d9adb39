-- The lines of a text, and what they say.
use Rattle.std.proofs.Common.{◌≡◌, ◌+◌, ◌-◌, ◌<◌, ◌≤◌, ℕ, suc, Bool, true, false, cond, List, [], ◌∷◌, ◌++◌, length, length-append, length-drop, take, drop, map}
use Rattle.std.proofs.Common.{Option, Some, None, append_assoc, eqb, ltb, ap, sym, ◌∙◌, refl, arith}
use Rattle.std.specs.{List.position_or_len, List.onto_first, Str.is_utf8, Str.IsUtf8}
use Rattle.std.proofs.lemmas.Bool.Decides.{nat_tests}
use Rattle.std.proofs.Math.Seq.{take-length}
use Rattle.std.proofs.lemmas.{List.map-append, Str.IsUtf8-from_is_utf8, Str.is_utf8-from_IsUtf8}
use Rattle.slotmap_script.specs.ScriptText.{lines_of, Said, said_by, said_by_text, SaidBy}

abbrev first_feed : List ℕ → ℕ
first_feed text = position_or_len (λ b. eqb b 10) text

first_by : (b : ℕ) (rest : List ℕ) (is : Bool) → eqb b 10 ≡ is
    → (first_feed rest < length rest → lines_of rest ≡ take (first_feed rest) rest ∷ lines_of (drop (suc (first_feed rest)) rest))
    → first_feed (b ∷ rest) < length (b ∷ rest) → lines_of (b ∷ rest) ≡ take (first_feed (b ∷ rest)) (b ∷ rest) ∷ lines_of (drop (suc (first_feed (b ∷ rest))) (b ∷ rest))
first_by b rest true e ih h = rw e refl
first_by b rest false e ih h =
    let k = rw e at h in
    let up : 1 + first_feed rest ≡ suc (first_feed rest) = omega arith in
    rw (e, up) (ap (onto_first b) (ih (omega arith)))

-- up to the first line feed there is one line
pub lines_first : (text : List ℕ) → first_feed text < length text → lines_of text ≡ take (first_feed text) text ∷ lines_of (drop (suc (first_feed text)) text)
lines_first [] h = absurd (omega (arith, h))
lines_first (b ∷ rest) h = first_by b rest (eqb b 10) refl (lines_first rest) h

last_by : (b : ℕ) (rest : List ℕ) (is : Bool) → eqb b 10 ≡ is → (0 < length rest → length rest ≤ first_feed rest → lines_of rest ≡ rest ∷ [])
    → length (b ∷ rest) ≤ first_feed (b ∷ rest) → lines_of (b ∷ rest) ≡ (b ∷ rest) ∷ []
last_by b rest true e ih h = let k = rw e at h in absurd (omega (arith, k))
last_by b [] false e ih h = rw e refl
last_by b (c ∷ rest) false e ih h = let k = rw e at h in rw e (ap (onto_first b) (ih (omega arith) (omega arith)))

-- a text without a line feed is one line, unless it is empty
pub lines_last : (text : List ℕ) → 0 < length text → length text ≤ first_feed text → lines_of text ≡ text ∷ []
lines_last [] some h = absurd (omega (arith, some))
lines_last (b ∷ rest) some h = last_by b rest (eqb b 10) refl (lines_last rest) h

-- what `position` found
pub found_at : (p n e : ℕ) (r : Option ℕ) → r ≡ cond (ltb p n) (Some p) None → r ≡ Some e → (p < n) × (p ≡ e)
found_at p n e r h k = grind (arith, nat_tests)

pub not_found : (p n : ℕ) (r : Option ℕ) → r ≡ cond (ltb p n) (Some p) None → r ≡ None → n ≤ p
not_found p n r h k = grind (arith, nat_tests)

pub take_rest : {A : Type 0} (n : ℕ) (xs : List A) → take (length xs - n) (drop n xs) ≡ drop n xs
take_rest n xs = rw (← length-drop n xs) (take-length (drop n xs))

pub append_nil : {A : Type 0} (xs : List A) → xs ++ [] ≡ xs
append_nil [] = refl
append_nil (x ∷ xs) = ap (λ t. x ∷ t) (append_nil xs)

module _ {C : Type 0} (command_of : List (List ℕ) → Option C) where
  pub said_utf8 : (text : List ℕ) → IsUtf8 text → said_by command_of text ≡ said_by_text command_of text
  said_utf8 text utf8 = rw (is_utf8-from_IsUtf8 text utf8) refl

  said_by_test : (text : List ℕ) (is : Bool) → is_utf8 text ≡ is → (IsUtf8 text → ⊥) → said_by command_of text ≡ None
  said_by_test text true e none = absurd (none (IsUtf8-from_is_utf8 text e))
  said_by_test text false e none = rw e refl

  pub said_none : (text : List ℕ) → (IsUtf8 text → ⊥) → said_by command_of text ≡ None
  said_none text none = said_by_test text (is_utf8 text) refl none

  -- one line more
  pub said_more : (texts : List (List ℕ)) (said : List (Said C)) (text : List ℕ) (one : Said C) → SaidBy command_of texts said → said_by command_of text ≡ Some one
      → SaidBy command_of (texts ++ text ∷ []) (said ++ one ∷ [])
  said_more texts said text one all more = map-append (said_by command_of) texts (text ∷ []) ∙ ap (λ t. map (said_by command_of) texts ++ t ∷ []) more
      ∙ ap (λ t. t ++ Some one ∷ []) all ∙ sym (map-append Some said (one ∷ []))

  -- of the script, the lines up to rest say something, as the stretches and commands show: from to now to
  pub record Parsed (script rest : List ℕ) (number : ℕ) {S : Type 0} (from to : List (Said C) → S) : Type 0 where
    pub texts : List (List ℕ)
    pub said : List (Said C)
    pub lines : lines_of script ≡ texts ++ lines_of rest
    pub counted : number ≡ length texts
    pub within : number + length rest ≤ length script
    pub all : SaidBy command_of texts said
    pub same : (more : List (Said C)) → to more ≡ from (said ++ more)

  pub parsed_none : (script : List ℕ) {S : Type 0} (from : List (Said C) → S) → Parsed script script 0 from from
  parsed_none script from = record { texts = []; said = []; lines = refl; counted = refl; within = omega arith; all = refl; same = λ more. refl }

  module _ {script rest : List ℕ} {number : ℕ} {S : Type 0} {from to : List (Said C) → S} (before : Parsed script rest number from to) where
    pub parsed_more : (first others : List ℕ) (one : Said C) (next : List (Said C) → S) → lines_of rest ≡ first ∷ lines_of others → length others < length rest
        → said_by command_of first ≡ Some one → ((more : List (Said C)) → next more ≡ to (one ∷ more)) → Parsed script others (number + 1) from next
    parsed_more first others one next split shorter says added = record {
      texts = before.texts ++ first ∷ [];
      said = before.said ++ one ∷ [];
      lines = before.lines ∙ ap (λ t. before.texts ++ t) split ∙ sym (append_assoc before.texts (first ∷ []) (lines_of others));
      counted = omega (arith, before.counted, length-append before.texts (first ∷ []));
      within = omega (arith, before.within);
      all = said_more before.texts before.said first one before.all says;
      same = λ more. added more ∙ before.same (one ∷ more) ∙ ap from (sym (append_assoc before.said (one ∷ []) more));
    }
