-- Why a script stops, from what its parts say.
use Rattle.std.proofs.Common.{◌≡◌, ◌<◌, ℕ, List, [], ◌∷◌, ◌++◌, length, get_or, map, Option, Some, None, Result, Ok, Err, OnOk, IfErr, string_bytes, String, Global, Bool}
use Rattle.std.proofs.Common.{true, false, ap, subst, ◌∙◌, refl, arith, inl, inr}
use Rattle.std.specs.{Bool.Decides, Prelude.codes, Prelude.IfSome, Str.bytes_eq}
use Rattle.std.proofs.lemmas.Slice.Eq.{bytes_eq-Decides}
use Rattle.std.specs.Io.KnownBytes.{Appends}
use Rattle.slotmap_script.specs.{ScriptText.lines_of, ScriptText.StopsParse, StopText.stop_text, StopText.Finishes, StopText.IsBegun, StopText.Tells}
use Rattle.slotmap_script.specs.Kinds.{MapKind, AreRead, StopsRun}
use Rattle.slotmap_script.specs.Ended.{KindName, basic, dense, hop, kind_named, Runs, Refuses, Stops, StopsOn, IsBadLine, IsPrinted}
use Rattle.slotmap_script.specs.declared.stop.Stop.{Stop}
use Rattle.slotmap_script.proofs.Appending.{Appends-none, Appends-trans, begun_after, begun_longer, begun_whole}
use Rattle.slotmap_script.proofs.Lines.{append_nil}
use Rattle.slotmap_script.specs.declared.stop.Stop.TheVariants as stop

is_false : (b : Bool) (P : Type 0) → Decides b P → (P → ⊥) → b ≡ false
is_false true P is none = absurd (none (is.0 refl))
is_false false P is none = refl

not_said : (word bytes : List ℕ) → (word ≡ bytes → ⊥) → bytes_eq word bytes ≡ false
not_said word bytes other = is_false (bytes_eq word bytes) (word ≡ bytes) (bytes_eq-Decides word bytes) other

other_word : (word : List ℕ) → (word ≡ codes "basic" → ⊥) → (word ≡ codes "dense" → ⊥) → (word ≡ codes "hop" → ⊥)
    → kind_named (word ∷ []) ≡ None
other_word word not_basic not_dense not_hop =
    rw (not_said word (codes "basic") not_basic, not_said word (codes "dense") not_dense, not_said word (codes "hop") not_hop) refl

-- one word that is no kind
pub none_named : (words : List (String Global)) (word : String Global) → length words < 2 → word ≡ get_or words 0 word
    → (string_bytes word ≡ codes "basic" → ⊥) → (string_bytes word ≡ codes "dense" → ⊥) → (string_bytes word ≡ codes "hop" → ⊥) → kind_named (map string_bytes words) ≡ None
none_named [] word few is not_basic not_dense not_hop = refl
none_named (first ∷ []) word few is not_basic not_dense not_hop = rw (← is) (other_word (string_bytes word) not_basic not_dense not_hop)
none_named (first ∷ second ∷ rest) word few is not_basic not_dense not_hop = absurd (omega arith)

-- the bytes that were read, in a vector that was empty
pub are_read : (known : Option (List ℕ)) (before after script : List ℕ) → IfSome known (λ bytes. after ≡ before ++ bytes) → before ≡ []
    → script ≡ after → AreRead known script
are_read None before after script reads empty is = tt
are_read (Some bytes) before after script reads empty is = is ∙ reads ∙ ap (λ t. t ++ bytes) empty

module _ {C M : Type 0} (kind : MapKind C M) (known : Option (List ℕ)) (old : Option (List ℕ)) where
  -- what stops the parse stops the run, and nothing is printed
  pub stops_parsed : (script : List ℕ) → AreRead known script → (why : Stop) → StopsParse kind.command_of (lines_of script) why
      → StopsRun kind known (Appends old old) why
  stops_parsed script read (stop.BadLine number) first = (script, read, first, Appends-none old)
  stops_parsed script read stop.NoScript memory = ([], inl refl, Appends-none old)
  stops_parsed script read stop.Usage none = absurd none
  stops_parsed script read stop.Output none = absurd none

-- what is printed last is whole, unless the status is 3
told_whole : (text : List ℕ) (wanted : ℕ) (Printed : List ℕ → Type 0) (status : ℕ) → Tells text wanted Printed status → (status ≡ 3 → ⊥)
    → (status ≡ wanted) × Printed text
told_whole text wanted Printed status (inl whole) other = whole
told_whole text wanted Printed status (inr broken) other = absurd (other broken.0)

-- at each status a beginning of it is printed
told_begun : (text : List ℕ) (wanted : ℕ) (Printed : List ℕ → Type 0) (status : ℕ) → Tells text wanted Printed status → IsBegun text Printed
told_begun text wanted Printed status (inl whole) = begun_whole text Printed whole.1
told_begun text wanted Printed status (inr broken) = broken.1

module _ (words : List (List ℕ)) (known : Option (List ℕ)) (old mid new : Option (List ℕ)) where
  bad_line : (kind : KindName) (number : ℕ) → StopsOn kind known (Appends old mid) (stop.BadLine number)
      → (script : List ℕ) × AreRead known script × IsBadLine kind script number × Appends old mid []
  bad_line basic number stops = stops
  bad_line dense number stops = stops
  bad_line hop number stops = stops

  -- status 0 is that of a whole run
  pub runs_at_0 : {T : Type 0} (ended : Result T Stop) (status : ℕ) → OnOk ended ((text : List ℕ) × Runs words known text × Appends old mid text)
      → Finishes ended (Appends mid new) status → status ≡ 0 → (text : List ℕ) × Runs words known text × Appends old new text
  runs_at_0 (Ok done) status ran ends zero =
      let whole = told_whole [] 0 _ status ends (λ three. omega (arith, zero, three)) in
      (ran.0, ran.1, subst (λ t. Appends old new t) (append_nil ran.0) (Appends-trans old mid new ran.0 [] ran.2 whole.1))
  runs_at_0 (Err stop.Output) status ran ends zero = absurd (omega (arith, ends.0, zero))
  runs_at_0 (Err stop.Usage) status ran ends zero =
      absurd (let whole = told_whole _ 2 _ status ends (λ three. omega (arith, zero, three)) in let two = whole.0 in omega (arith, two, zero))
  runs_at_0 (Err (stop.BadLine number)) status ran (inl ends) zero =
      absurd (let whole = told_whole _ 2 _ status ends (λ three. omega (arith, zero, three)) in let two = whole.0 in omega (arith, two, zero))
  runs_at_0 (Err (stop.BadLine number)) status ran (inr ends) zero =
      absurd (let whole = told_whole _ 3 _ status ends (λ three. omega (arith, zero, three)) in let three = whole.0 in omega (arith, three, zero))
  runs_at_0 (Err stop.NoScript) status ran ends zero =
      absurd (let whole = told_whole _ 3 _ status ends (λ three. omega (arith, zero, three)) in let three = whole.0 in omega (arith, three, zero))

  -- status 2 is that of a fault of the words or of a line
  pub refuses_at_2 : {T : Type 0} (ended : Result T Stop) (status : ℕ) → IfErr ended (Stops words known (Appends old mid))
      → Finishes ended (Appends mid new) status → status ≡ 2 → (text : List ℕ) × Refuses words known text × Appends old new text
  refuses_at_2 (Ok done) status stops ends two =
      absurd (let whole = told_whole _ 0 _ status ends (λ three. omega (arith, two, three)) in let zero = whole.0 in omega (arith, two, zero))
  refuses_at_2 (Err stop.Output) status stops ends two = absurd (omega (arith, ends.0, two))
  refuses_at_2 (Err stop.NoScript) status stops ends two =
      absurd (let whole = told_whole _ 3 _ status ends (λ three. omega (arith, two, three)) in let three = whole.0 in omega (arith, two, three))
  refuses_at_2 (Err stop.Usage) status stops ends two =
      let whole = told_whole _ 2 _ status ends (λ three. omega (arith, two, three)) in
      (stop_text stop.Usage, inl (stops.0, refl), Appends-trans old mid new [] _ stops.1 whole.1)
  refuses_at_2 (Err (stop.BadLine number)) status stops (inl ends) two =
      let whole = told_whole _ 2 _ status ends (λ three. omega (arith, two, three)) in
      let bad = bad_line stops.0 number stops.2 in
      (stop_text (stop.BadLine number), inr (stops.0, stops.1, (bad.0, number, bad.1, bad.2, refl)), Appends-trans old mid new [] _ bad.3 whole.1)
  refuses_at_2 (Err (stop.BadLine number)) status stops (inr ends) two =
      absurd (let whole = told_whole _ 3 _ status ends (λ three. omega (arith, two, three)) in let three = whole.0 in omega (arith, two, three))

  no_script : (kind : KindName) → StopsOn kind known (Appends old mid) stop.NoScript
      → (before : List ℕ) × StopsOn kind known (λ first. before ++ stop_text stop.NoScript ≡ first ++ stop_text stop.NoScript) stop.NoScript × Appends old mid before
  no_script basic stops = (stops.0, (stops.0, stops.1, refl), stops.2)
  no_script dense stops = (stops.0, (stops.0, stops.1, refl), stops.2)
  no_script hop stops = (stops.0, (stops.0, stops.1, refl), stops.2)

  -- nothing was printed before the line that there was no memory
  at_once : (kind : KindName) → StopsOn kind known (λ first. stop_text stop.NoScript ≡ first ++ stop_text stop.NoScript) stop.NoScript
  at_once basic = ([], inl refl, refl)
  at_once dense = ([], inl refl, refl)
  at_once hop = ([], inl refl, refl)

  -- a write failed while the replies of the first stretches were written
  broken : (kind : KindName) → StopsOn kind known (Appends old mid) stop.Output
      → (text : List ℕ) × StopsOn kind known (λ first. text ++ stop_text stop.NoScript ≡ first ++ stop_text stop.NoScript) stop.NoScript × IsBegun text (Appends old mid)
  broken basic stops = (stops.0, (stops.0, inr stops.1, refl), stops.2)
  broken dense stops = (stops.0, (stops.0, inr stops.1, refl), stops.2)
  broken hop stops = (stops.0, (stops.0, inr stops.1, refl), stops.2)

  -- whatever the status, a beginning of what is printed where no write fails
  pub begins : {T : Type 0} (ended : Result T Stop) (status : ℕ) → OnOk ended ((text : List ℕ) × Runs words known text × Appends old mid text)
      → IfErr ended (Stops words known (Appends old mid)) → Finishes ended (Appends mid new) status
      → (text : List ℕ) × IsPrinted words known text × IsBegun text (Appends old new)
  begins (Ok done) status ran stops ends =
      let begun = begun_after old mid new ran.0 [] ran.2 (told_begun [] 0 _ status ends) in
      (ran.0, inl ran.1, subst (λ t. IsBegun t (Appends old new)) (append_nil ran.0) begun)
  begins (Err stop.Output) status ran stops ends =
      let (text, short, begun) = broken stops.0 stops.2 in
      let (part, rest, parts, appends) = begun in
      let kept : Appends old new part = subst (λ t. Appends old new t) (append_nil part) (Appends-trans old mid new part [] appends ends.1) in
      (text ++ stop_text stop.NoScript, inr (inr (stops.0, stops.1, short)), begun_longer text _ _ (part, rest, parts, kept))
  begins (Err stop.NoScript) status ran stops ends =
      let (before, short, appends) = no_script stops.0 stops.2 in
      (before ++ stop_text stop.NoScript, inr (inr (stops.0, stops.1, short)), begun_after old mid new before _ appends (told_begun _ 3 _ status ends))
  begins (Err stop.Usage) status ran stops ends =
      (stop_text stop.Usage, inr (inl (inl (stops.0, refl))), begun_after old mid new [] _ stops.1 (told_begun _ 2 _ status ends))
  begins (Err (stop.BadLine number)) status ran stops (inl ends) =
      let bad = bad_line stops.0 number stops.2 in (
        stop_text (stop.BadLine number),
        inr (inl (inr (stops.0, stops.1, (bad.0, number, bad.1, bad.2, refl)))),
        begun_after old mid new [] _ bad.3 (told_begun _ 2 _ status ends),
      )
  begins (Err (stop.BadLine number)) status ran stops (inr ends) =
      let bad = bad_line stops.0 number stops.2 in
      (stop_text stop.NoScript, inr (inr (stops.0, stops.1, at_once stops.0)), begun_after old mid new [] _ bad.3 (told_begun _ 3 _ status ends))
