-- One reply more, and one stretch more.
use Rattle.std.proofs.Common.{◌≡◌, ℤ, ℕ, List, [], ◌∷◌, ◌++◌, Option, map, append_assoc, ap, subst, sym, ◌∙◌, refl, inl, inr}
use Rattle.slotmap_core.proofs.Common.{Key}
use Rattle.slotmap_core.specs.declared.commands.Reply.{Reply}
use Rattle.slotmap_core.specs.declared.errors.OutOfMemory.{OutOfMemory}
use Rattle.slotmap_script.specs.{ReplyText.IsReplyText, ReplyText.line, StopText.IsBegun}
use Rattle.slotmap_script.specs.ScriptText.{Ending, prints_slots, loads, ends_script, stretch_of}
use Rattle.std.proofs.lemmas.List.{map-append}
use Rattle.slotmap_script.specs.declared.script.Stretch.{Stretch}
use Rattle.std.specs.Io.KnownBytes.{Appends}
use Rattle.std.specs.Iterator.{Yields}
use Rattle.std.specs.Prelude.{codes}
use Rattle.slotmap_core.specs.declared.errors.JsonError.TheVariants as json
use Rattle.slotmap_script.specs.ListText.{TellsRefusal}
use Rattle.slotmap_script.specs.declared.list.LoadError.{LoadError}
use Rattle.slotmap_script.specs.declared.list.LoadError.TheVariants as load
use Rattle.slotmap_script.specs.declared.stop.Stop.{Stop}
use Rattle.slotmap_script.specs.declared.stop.Stop.TheVariants as stop
use Rattle.std.specs.Vec.Iter.{into_iter_items, into_iter_steps}
use Rattle.std.specs.declared.vec.IntoIter.{IntoIter}
use Rattle.slotmap_script.specs.Printed.{SlotLists, PrintsReplies, PrintsStretch, Prints, PrintsEnd, Loads, IsReason, RepliesBy, BreaksEnd, StopsStretch, StopsStretches}
use Rattle.slotmap_script.proofs.Lines.{append_nil}
use Rattle.slotmap_script.proofs.Appending.{Appends-trans, begun_after, begun_longer}

pub reply_more : (replies : List (Reply Key ℤ ℤ OutOfMemory)) (text : List ℕ) (reply : Reply Key ℤ ℤ OutOfMemory) (more : List ℕ) → PrintsReplies replies text → IsReplyText reply more
    → PrintsReplies (replies ++ reply ∷ []) (text ++ more)
reply_more [] text reply more h is = (more, [], is, refl, ap (λ t. t ++ more) h ∙ sym (append_nil more))
reply_more (first ∷ replies) text reply more h is =
    (h.0, h.1 ++ more, h.2, reply_more replies h.1 reply more h.3 is, ap (λ t. t ++ more) h.4 ∙ append_assoc h.0 h.1 more)

module _ {C M : Type 0} (Answers : M → List C → List (Reply Key ℤ ℤ OutOfMemory) → M → Type 0) (lists : SlotLists M) where
  pub stretch_more : (stretches : List (List C × Ending)) (old mid new : M) (text more : List ℕ) (stretch : List C × Ending) → Prints Answers lists stretches old text mid
      → PrintsStretch Answers lists stretch mid more new → Prints Answers lists (stretches ++ stretch ∷ []) old (text ++ more) new
  stretch_more [] old mid new text more stretch h one =
      (new, more, [], subst (λ (c : M). PrintsStretch Answers lists stretch c more new) h.0 one, (refl, refl), ap (λ t. t ++ more) h.1 ∙ sym (append_nil more))
  stretch_more (first ∷ stretches) old mid new text more stretch h one =
      (h.0, h.1, h.2 ++ more, h.3, stretch_more stretches h.0 mid new h.2 more stretch h.4 one, ap (λ t. t ++ more) h.5 ∙ append_assoc h.1 h.2 more)

  pub stretch_more_of : (stretches : List (Stretch C)) (old mid new : M) (text more : List ℕ) (stretch : Stretch C) → Prints Answers lists (map stretch_of stretches) old text mid
      → PrintsStretch Answers lists (stretch_of stretch) mid more new → Prints Answers lists (map stretch_of (stretches ++ stretch ∷ [])) old (text ++ more) new
  stretch_more_of stretches old mid new text more stretch h one =
      rw (map-append stretch_of stretches (stretch ∷ [])) (stretch_more (map stretch_of stretches) old mid new text more (stretch_of stretch) h one)

  -- what stops a stretch stops the run, after what was printed before
  pub stops_after : (stretches before left : List (Stretch C)) (stretch : Stretch C) → stretches ≡ before ++ stretch ∷ left → (begun last : M) (text : List ℕ)
      → Prints Answers lists (map stretch_of before) begun text last
      → (old now new : Option (List ℕ)) → Appends old now text → (why : Stop) → StopsStretch Answers lists (stretch_of stretch) last (Appends now new) why
      → StopsStretches Answers lists (map stretch_of stretches) begun (Appends old new) why
  stops_after stretches before left stretch parts begun last text prints old now new written stop.NoScript kept =
      let cut : map stretch_of stretches ≡ map stretch_of before ++ map stretch_of (stretch ∷ left) = ap (map stretch_of) parts ∙ map-append stretch_of before (stretch ∷ left) in (
        text,
        (map stretch_of before, map stretch_of (stretch ∷ left), last, cut, prints),
        subst (λ t. Appends old new t) (append_nil text) (Appends-trans old now new text [] written kept),
      )
  stops_after stretches before left stretch parts begun last text prints old now new written stop.Output (more, next, one, broken) =
      let with = before ++ stretch ∷ [] in
      let cut : map stretch_of stretches ≡ map stretch_of with ++ map stretch_of left =
      ap (map stretch_of) (parts ∙ sym (append_assoc before (stretch ∷ []) left)) ∙ map-append stretch_of with left in
      let prints_with = stretch_more_of before begun last next text more stretch prints one in
      (text ++ more, (map stretch_of with, map stretch_of left, next, cut, prints_with), begun_after old now new text more written broken)
  stops_after stretches before left stretch parts begun last text prints old now new written stop.Usage kept = absurd kept
  stops_after stretches before left stretch parts begun last text prints old now new written (stop.BadLine number) kept = absurd kept

  -- the replies of a stretch aren't written: its end may still print that there is no memory
  may_end : (end : Ending) (mid : M) → (text : List ℕ) × (new : M) × PrintsEnd lists end mid text new
  may_end prints_slots mid = (line (codes "memory"), mid, (refl, inr refl))
  may_end (loads text) mid = (line (codes "memory"), mid, inr (refl, (load.Json json.Memory, tt, refl)))
  may_end ends_script mid = ([], mid, (refl, refl))

  -- a stretch prints its replies, and then its end
  pub stretch_printed : (stretch : List C × Ending) (old mid new : M) (told last : List ℕ) → RepliesBy Answers old stretch.0 told mid → PrintsEnd lists stretch.1 mid last new
      → PrintsStretch Answers lists stretch old (told ++ last) new
  stretch_printed stretch old mid new told last (replies, answers, tells) ends = record {
    replies = replies;
    mid = mid;
    answers = answers;
    told = told;
    tells = tells;
    last = last;
    ends = ends;
    in_order = refl;
  }

  -- its replies aren't written
  pub replies_broken : (stretch : List C × Ending) (old mid : M) (told : List ℕ) (Printed : List ℕ → Type 0) → RepliesBy Answers old stretch.0 told mid
      → IsBegun told Printed → StopsStretch Answers lists stretch old Printed stop.Output
  replies_broken stretch old mid told Printed replies begun =
      let (last, new, ends) = may_end stretch.1 mid in
      (told ++ last, new, stretch_printed stretch old mid new told last replies ends, begun_longer told last Printed begun)

  -- its replies are written, and its end isn't
  pub end_broken : (stretch : List C × Ending) (old mid : M) (told : List ℕ) (before now after : Option (List ℕ)) (why : Stop) → RepliesBy Answers old stretch.0 told mid
      → Appends before now told → BreaksEnd lists stretch.1 mid (Appends now after) why → StopsStretch Answers lists stretch old (Appends before after) why
  end_broken stretch old mid told before now after why replies written (output, (last, new, ends, begun)) =
      rw output (told ++ last, new, stretch_printed stretch old mid new told last replies ends, begun_after before now after told last written begun)

-- what is printed where no map was read
pub told_reason : {M : Type 0} (lists : SlotLists M) (old : M) (error : LoadError) (text : List ℕ) → IsReason lists error → TellsRefusal error text → Loads lists old text old
told_reason lists old error text reason (inl is) = inr (refl, (error, reason, is))
told_reason lists old error text reason (inr is) = inr (refl, (load.Json json.Memory, tt, is))

-- what a loop over a vector took, and what is left
pub taken_and_left : {X Z : Type 0} (all left : IntoIter X Z) (taken : List X) → Yields (into_iter_steps {X = X} {Z = Z}) all taken left
    → into_iter_items all ≡ taken ++ into_iter_items left
taken_and_left all left [] run = ap into_iter_items run
taken_and_left all left (x ∷ taken) run = run.1.0 ∙ ap (λ xs. x ∷ xs) (taken_and_left run.0 left taken run.2)
