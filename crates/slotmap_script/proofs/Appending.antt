-- One write after another, and lists of texts with a byte between each two.
use Rattle.std.proofs.Common.{◌≡◌, ◌+◌, ◌-◌, ◌<◌, ◌≤◌, ℕ, List, [], ◌∷◌, ◌++◌, Option}
use Rattle.std.proofs.Common.{Some, None, length, take, drop, map, get_or, append_assoc, ap, sym, ◌∙◌, refl, arith}
use Rattle.std.specs.Io.KnownBytes.{Appends, Keeps}
use Rattle.slotmap_script.specs.StopText.{IsBegun}
use Rattle.std.specs.List.{join_with_byte}
use Rattle.slotmap_script.proofs.Lines.{append_nil}
use Rattle.std.proofs.lemmas.List.{map_more, length-take-le, length-map, take-append-drop, take_rest}

-- what two writes append
pub Appends-trans : (old mid new : Option (List ℕ)) (first second : List ℕ) → Appends old mid first → Appends mid new second → Appends old new (first ++ second)
Appends-trans None mid new first second h k = tt
Appends-trans (Some xs) None new first second h k = absurd h
Appends-trans (Some xs) (Some ys) None first second h k = absurd k
Appends-trans (Some xs) (Some ys) (Some zs) first second h k = k ∙ ap (λ t. t ++ second) h ∙ append_assoc xs first second

-- nothing is appended where nothing was written
pub Appends-none : (old : Option (List ℕ)) → Appends old old []
Appends-none None = tt
Appends-none (Some xs) = sym (append_nil xs)

-- what stays known after a write
pub Appends-kept : (old mid new : Option (List ℕ)) (text : List ℕ) → Appends old mid text → Keeps mid new → Appends old new text
Appends-kept None mid new text h k = tt
Appends-kept (Some xs) None new text h k = absurd h
Appends-kept (Some xs) (Some ys) None text h k = absurd k
Appends-kept (Some xs) (Some ys) (Some zs) text h k = k ∙ h

-- n more bytes of a text are written
pub moved_front : (all done rest : List ℕ) (n : ℕ) → all ≡ done ++ rest → all ≡ (done ++ take n rest) ++ take (length rest - n) (drop n rest)
moved_front all done rest n e =
    e ∙ ap (λ l. done ++ l) (sym (take-append-drop n rest)) ∙ sym (append_assoc done (take n rest) (drop n rest)) ∙ ap (λ l. (done ++ take n rest) ++ l) (sym (take_rest rest n))

-- A beginning of a text: the whole of it, one after what was written before, and one of a longer text
pub begun_whole : (text : List ℕ) (Printed : List ℕ → Type 0) → Printed text → IsBegun text Printed
begun_whole text Printed h = (text, [], sym (append_nil text), h)

pub begun_after : (old mid new : Option (List ℕ)) (before text : List ℕ) → Appends old mid before → IsBegun text (Appends mid new)
    → IsBegun (before ++ text) (Appends old new)
begun_after old mid new before text h (part, rest, parts, k) =
    (before ++ part, rest, ap (λ l. before ++ l) parts ∙ sym (append_assoc before part rest), Appends-trans old mid new before part h k)

pub begun_longer : (text more : List ℕ) (Printed : List ℕ → Type 0) → IsBegun text Printed → IsBegun (text ++ more) Printed
begun_longer text more Printed (part, rest, parts, h) = (part, rest ++ more, ap (λ l. l ++ more) parts ∙ append_assoc part rest more, h)

join_push : (c : ℕ) (xs : List (List ℕ)) (y : List ℕ) → 0 < length xs → join_with_byte c (xs ++ y ∷ []) ≡ join_with_byte c xs ++ (c ∷ y)
join_push c [] y h = absurd (omega arith)
join_push c (x ∷ []) y h = refl
join_push c (x ∷ z ∷ zs) y h = ap (λ t. x ++ c ∷ t) (join_push c (z ∷ zs) y (omega arith)) ∙ sym (append_assoc x (c ∷ join_with_byte c (z ∷ zs)) (c ∷ y))

join_one : (c : ℕ) (xs : List (List ℕ)) (y : List ℕ) → length xs ≡ 0 → join_with_byte c (xs ++ y ∷ []) ≡ join_with_byte c xs ++ y
join_one c [] y h = refl
join_one c (x ∷ xs) y h = absurd (omega arith)

module _ {X : Type 0} (c : ℕ) (f : X → List ℕ) (xs : List X) (i : ℕ) (d : X) (within : i < length xs) (front : List ℕ) (old now : Option (List ℕ))
    (before : Appends old now (front ++ join_with_byte c (map f (take i xs)))) where
  count : length (map f (take i xs)) ≡ i
  count = length-map (take i xs) f ∙ length-take-le i xs (omega arith)

  -- a further text stands after the byte
  pub join_more : 0 < i → (mid new : Option (List ℕ)) → Appends now mid (c ∷ []) → Appends mid new (f (get_or xs i d))
      → Appends old new (front ++ join_with_byte c (map f (take (i + 1) xs)))
  join_more some mid new byte text =
      let step = ap (join_with_byte c) (map_more f xs i d within) ∙ join_push c (map f (take i xs)) (f (get_or xs i d)) (omega (arith, count)) in
      rw (step, ← append_assoc) (Appends-trans old now new _ _ before (Appends-trans now mid new _ _ byte text))

  -- the first text stands alone
  pub join_first : i ≤ 0 → (new : Option (List ℕ)) → Appends now new (f (get_or xs i d)) → Appends old new (front ++ join_with_byte c (map f (take (i + 1) xs)))
  join_first none new text =
      let step = ap (join_with_byte c) (map_more f xs i d within) ∙ join_one c (map f (take i xs)) (f (get_or xs i d)) (omega (arith, count)) in
      rw (step, ← append_assoc) (Appends-trans old now new _ _ before text)
