-- What a joined run finds, by positions: for callers, who know commands and replies by index.
use Rattle.std.proofs.Common.{◌≡◌, ◌≢◌, ◌∷◌, ◌⊎◌, ◌+◌, ◌-◌, ◌<◌, ◌++◌}
use Rattle.slotmap_run.proofs.Common.{after_insert, JoinedGiven, JoinedDetachStep, JoinedCommand, JoinedDetachCommand, JoinedReply, keys_total, exact_keys}
use Rattle.slotmap_run.proofs.Common.{StandsIn, IsIssued, Fresh, Key, LooksAt, Joined, named, StepPut, itself}
use Rattle.std.specs.List.{AllByRecursion, AllZip}
use Rattle.slotmap_core.specs.{Run.Run, SecondaryLaw.Shows}
use Rattle.slotmap_core.specs.Dictionary.{WithDictionary, DictionaryStep, DetachDictionaryStep, after_put, after_take, unused}
use Rattle.slotmap_core.proofs.General.Maps.{get_inserted, get_other, get_left, in_inserted}
use Rattle.slotmap_core.proofs.General.Positions.{split_at_two, stands_before, stands_between, at_in_first, at_in_part, zipped_by_positions}
use Rattle.slotmap_core.proofs.Common.{ℕ, zero, suc, List, [], length, take, drop, slice_get, Some, None, Option, inl, inr, refl, sym, ap, ◌∙◌, subst, arith}
use Rattle.slotmap_run.proofs.{Runs.run_split, Runs.run_keeps_by, MapChanges.changes}
use Rattle.std.specs.FinMap as map
use Rattle.slotmap_core.specs.declared.joined.JoinedCommand.TheVariants as command
use Rattle.slotmap_core.specs.declared.joined.JoinedDetachCommand.TheVariants as detaching
use Rattle.slotmap_core.specs.declared.joined.JoinedReply.TheVariants as reply

pub named_more : {K : Type 0} (keys : List K) (k : K) (n : ℕ) (q : K) → named keys n ≡ Some q → named (keys ++ k ∷ []) n ≡ Some q
named_more keys k zero q h = absurd (cc)
named_more [] k (suc n) q h = absurd (cc)
named_more (x ∷ keys) k (suc zero) q h = h
named_more (x ∷ keys) k (suc (suc n)) q h = named_more keys k (suc n) q h

-- a number of a longer list names the last key, or the same key as before
named_pushed : {K : Type 0} (keys : List K) (k : K) (n : ℕ) (q : K) → named (keys ++ k ∷ []) n ≡ Some q → ((n ≡ length keys + 1) × (q ≡ k)) ⊎ (named keys n ≡ Some q)
named_pushed keys k zero q h = absurd (cc)
named_pushed [] k (suc zero) q h = inl (refl, cc)
named_pushed [] k (suc (suc n)) q h = absurd (cc)
named_pushed (x ∷ keys) k (suc zero) q h = inr h
named_pushed (x ∷ keys) k (suc (suc n)) q h = elim (named_pushed keys k (suc n) q h) [ inl last ↦ inl (omega (arith, last.0), last.1) | inr was ↦ inr was ]

none_named : {K : Type 0} (n : ℕ) (k : K) → named [] n ≡ Some k → ⊥
none_named n k h = grind arith

-- the command doesn't remove the key that n names
abbrev pub RemovesOther : {V W : Type 0} → ℕ → JoinedDetachCommand V W → Type 0
RemovesOther n (detaching.Plain (command.Remove m)) = m ≢ n
RemovesOther n _ = Unit {0}

-- the command writes no value beside the key that n names
abbrev pub WritesOther : {V W : Type 0} → ℕ → JoinedDetachCommand V W → Type 0
WritesOther n (detaching.Plain (command.Put m w)) = m ≢ n
WritesOther n (detaching.Plain (command.Take m)) = m ≢ n
WritesOther n _ = Unit {0}

module _ {K V W R : Type 0} (given : JoinedGiven K W R) (n : ℕ) where
  -- the keys that numbers name were returned and differ, and that of n is live or detached
  record Holds (s : Joined K V W) : Type 0 where
    issued : (m : ℕ) (q : K) → named s.keys m ≡ Some q → IsIssued s.primary (given.data_of q)
    apart : (l m : ℕ) (p q : K) → named s.keys l ≡ Some p → named s.keys m ≡ Some q → given.data_of p ≡ given.data_of q → l ≡ m
    stands : (k : K) → named s.keys n ≡ Some k → StandsIn s.primary (given.data_of k)

  module _ (old new : Joined K V W) (holds : Holds old) where
    one_more : (q : K) (v : V) → new.keys ≡ old.keys ++ q ∷ [] → Fresh old.primary (given.data_of q) → new.primary ≡ after_insert old.primary (given.data_of q) v → Holds new
    one_more q v keys fresh is =
        let at = λ (m : ℕ) (p : K) (h : named new.keys m ≡ Some p). named_pushed old.keys q m p (ap (λ ks. named ks m) (sym keys) ∙ h) in
        record {
          issued = λ m p h. elim (at m p h) [
            | inl last ↦ rw (is, last.1) (grind (arith, changes, itself keys_total exact_keys (given.data_of q)))
            | inr was ↦ let there = holds.issued m p was in rw is (grind (arith, changes, there))
          ];
          apart = λ l m p r h g same. elim (at l p h) [
            | inl last ↦ elim (at m r g) [
              | inl other ↦ last.0 ∙ sym other.0
              | inr was ↦ absurd (older (given.data_of r) (holds.issued m r was) (sym same ∙ ap given.data_of last.1))
            ]
            | inr here ↦ elim (at m r g) [
              | inl other ↦ absurd (older (given.data_of p) (holds.issued l p here) (same ∙ ap given.data_of other.1))
              | inr was ↦ holds.apart l m p r here was same
            ]
          ];
          stands = λ k h. elim (at n k h) [
            | inl last ↦ rw (is, last.1) (inl (in_inserted keys_total exact_keys old.primary.live (given.data_of q) v))
            | inr was ↦ let there = holds.stands k was in rw is (grind (arith, changes, there))
          ];
        }
      where
        older : (p : Key) → IsIssued old.primary p → p ≡ given.data_of q → ⊥
        older p there same = let less = fresh.newer p there (ap (λ (x : Key). x.index) same) in let alike = ap (λ (x : Key). x.version) same in absurd (omega arith)

    -- no new key
    as_before : new.keys ≡ old.keys → new.primary.issued ≡ old.primary.issued
        → ((k : K) → named old.keys n ≡ Some k → StandsIn old.primary (given.data_of k) → StandsIn new.primary (given.data_of k)) → Holds new
    as_before keys issued stands = grind arith

  holds_stays : (old : Joined K V W) (c : JoinedDetachCommand V W) (r : JoinedReply K V W R) (new : Joined K V W) → RemovesOther n c → JoinedDetachStep given old c r new
      → Holds old → Holds new
  holds_stays old c r new other step holds = grind (arith, one_more, as_before old new holds, changes)

-- a number names this key, and the dictionary has this value for it
record Finds {K V W R : Type 0} (given : JoinedGiven K W R) (n : ℕ) (k : K) (w : W) (s : WithDictionary K V W) : Type 0 where
  holds : Holds given n s.joined
  names : named s.joined.keys n ≡ Some k
  has : map.get s.dictionary (given.data_of k) ≡ Some w

module _ {K V W R : Type 0} (given : JoinedGiven K W R) (n : ℕ) where
  -- the joined step of a step with a dictionary
  joined_step : (old : WithDictionary K V W) (c : JoinedDetachCommand V W) (r : JoinedReply K V W R) (new : WithDictionary K V W) → DetachDictionaryStep given old c r new
      → JoinedDetachStep given old.joined c r new.joined
  joined_step old c r new step = grind arith

  pub still_named : (old : Joined K V W) (c : JoinedDetachCommand V W) (r : JoinedReply K V W R) (new : Joined K V W) → JoinedDetachStep given old c r new → (k : K)
      → named old.keys n ≡ Some k → named new.keys n ≡ Some k
  still_named old c r new step k is = grind (arith, named_more)

  module _ (k : K) (w : W) (old : WithDictionary K V W) (finds : Finds given n k w old) where
    -- what is written beside another number's key
    put_elsewhere : (m : ℕ) (o : Option K) (u : W) → named old.joined.keys m ≡ o → m ≢ n → map.get (after_put given.data_of old.dictionary o u) (given.data_of k) ≡ Some w
    put_elsewhere m None u is other = finds.has
    put_elsewhere m (Some q) u is other = grind (arith, get_other keys_total exact_keys old.dictionary)

    taken_elsewhere : (m : ℕ) (o : Option K) → named old.joined.keys m ≡ o → m ≢ n → map.get (after_take given.data_of old.dictionary o) (given.data_of k) ≡ Some w
    taken_elsewhere m None is other = finds.has
    taken_elsewhere m (Some q) is other = grind (arith, get_left keys_total exact_keys old.dictionary)

    still_has : (c : JoinedDetachCommand V W) (r : JoinedReply K V W R) (new : WithDictionary K V W) → WritesOther n c → DetachDictionaryStep given old c r new
        → map.get new.dictionary (given.data_of k) ≡ Some w
    still_has c r new other step = grind (arith, put_elsewhere, taken_elsewhere)

    finds_stays : (c : JoinedDetachCommand V W) (r : JoinedReply K V W R) (new : WithDictionary K V W) → RemovesOther n c → WritesOther n c
        → DetachDictionaryStep given old c r new → Finds given n k w new
    finds_stays c r new kept other step =
        let steps = joined_step old c r new step in
        let names = still_named old.joined c r new.joined steps k finds.names in
        grind (arith, holds_stays given n old.joined c r new.joined kept steps finds.holds, names, still_has)

  -- a put that has memory is found by the number that it names
  put_finds : (w : W) (before : Option W) (old new : WithDictionary K V W) → DictionaryStep given old (command.Put n w) (reply.Old before) new → Holds given n old.joined
      → (k : K) × Finds given n k w new
  put_finds w before old new step holds = of_named (named old.joined.keys n) refl step.steps step.notes
    where
      of_named : (o : Option K) → named old.joined.keys n ≡ o → StepPut given old.joined o w (reply.Old before) new.joined
          → new.dictionary ≡ after_put given.data_of old.dictionary o w → (k : K) × Finds given n k w new
      of_named (Some k) is puts notes = grind (arith, get_inserted keys_total exact_keys old.dictionary)
      of_named None is puts notes = absurd puts

  -- what a look-up by that number shows
  finds_shown : (k : K) (w : W) (seen : Option R) (old new : WithDictionary K V W) → DictionaryStep given old (command.Look n) (reply.Looked seen) new → Finds given n k w old
      → LooksAt given.looks (Some w) seen
  finds_shown k w seen old new step finds = subst (λ (o : Option W). LooksAt given.looks o seen) finds.has (step.by_dictionary k finds.names (finds.holds.stands k finds.names))

-- a list of commands, each seen as one with detaching
module _ {K V W R C : Type 0} (given : JoinedGiven K W R) (of : C → JoinedDetachCommand V W) where
  abbrev StepOf : WithDictionary K V W → C → JoinedReply K V W R → WithDictionary K V W → Type 0
  StepOf old c r new = DetachDictionaryStep given old (of c) r new

  module _ (n : ℕ) (w : W) (before : Option W) (seen : Option R) (p l : C) (puts : of p ≡ detaching.Plain (command.Put n w)) (looks : of l ≡ detaching.Plain (command.Look n)) where
    shown_after : (t : WithDictionary K V W) (commands : List C) (replies : List (JoinedReply K V W R)) (i j : ℕ) → Run StepOf unused commands replies t → i < j
        → AllByRecursion (λ c. RemovesOther n (of c)) (take j commands) → AllByRecursion (λ c. WritesOther n (of c)) (take (j - (i + 1)) (drop (i + 1) commands))
        → slice_get commands i ≡ Some p → slice_get commands j ≡ Some l
        → slice_get replies i ≡ Some (reply.Old before) → slice_get replies j ≡ Some (reply.Looked seen)
        → LooksAt given.looks (Some w) seen
    shown_after t commands replies i j run less unremoved unwritten at_put at_look put looked =
        let asked = split_at_two commands i j p l less at_put at_look in
        let told = split_at_two replies i j _ _ less put looked in
        let long : length asked.before ≡ length told.before = asked.at ∙ sym told.at in
        let long_between : length asked.between ≡ length told.between = omega (arith, asked.apart, told.apart) in
        let whole = subst (λ (x : List (JoinedReply K V W R)). Run StepOf unused (asked.before ++ p ∷ (asked.between ++ l ∷ asked.after)) x t) told.is
        (subst (λ (x : List C). Run StepOf unused x replies t) asked.is run) in
        let first = run_split StepOf asked.before told.before p (reply.Old before) _ _ unused t long whole in
        let second = run_split StepOf asked.between told.between l (reply.Looked seen) asked.after told.after first.1 t long_between first.4 in
        let kept_before : AllZip (λ c r. RemovesOther n (of c)) asked.before told.before = zipped_by_positions _ asked.before told.before long (λ m c r inside is_c is_r.
        at_in_first (λ c. RemovesOther n (of c)) j m commands c unremoved (omega (arith, asked.at)) (stands_before asked m c is_c)) in
        let kept_between : AllZip (λ c r. RemovesOther n (of c) × WritesOther n (of c)) asked.between told.between = zipped_by_positions _ asked.between told.between long_between
        (λ m c r inside is_c is_r. (
          at_in_first (λ c. RemovesOther n (of c)) j (i + 1 + m) commands c unremoved (omega (arith, asked.apart)) (stands_between asked m c is_c),
          at_in_part (λ c. WritesOther n (of c)) (i + 1) (j - (i + 1)) m commands c unwritten (omega (arith, asked.apart)) (stands_between asked m c is_c),
        )) in
        let start : Holds {V = V} {R = R} given n (unused {K = K} {V = V} {W = W}).joined = record {
          issued = λ m q h. absurd (none_named m q h);
          apart = λ m o q x h g same. absurd (none_named m q h);
          stands = λ k h. absurd (none_named n k h);
        } in
        let held = run_keeps_by StepOf (λ s. Holds given n s.joined) (λ c r. RemovesOther n (of c))
        (λ old c r new kept step holds. holds_stays given n old.joined (of c) r new.joined kept (joined_step given n old (of c) r new step) holds)
        asked.before told.before unused first.0 kept_before first.2 start in
        let put_step = subst (λ x. DetachDictionaryStep given first.0 x (reply.Old before) first.1) puts first.3 in
        let found = put_finds given n w before first.0 first.1 put_step held in
        let still = run_keeps_by StepOf (Finds given n found.0 w) (λ c r. RemovesOther n (of c) × WritesOther n (of c))
        (λ old c r new kept step finds. finds_stays given n found.0 w old finds (of c) r new kept.0 kept.1 step) asked.between told.between first.1 second.0 kept_between second.2 found.1 in
        finds_shown given n found.0 w seen second.0 second.1 (subst (λ x. DetachDictionaryStep given second.0 x (reply.Looked seen) second.1) looks second.3) still

shows_seen : {W R : Type 0} (looks : W → R → Type 0) (f : W → R) (w : W) (seen : Option R) → Shows looks f → LooksAt looks (Some w) seen → seen ≡ Some (f w)
shows_seen looks f w seen shows sees = grind arith

module _ {K V W R : Type 0} (given : JoinedGiven K W R) where
  -- The value that is put under a number at one position is what a Look at the same number shows at a later one, if no command before the
  -- Look removes that number's key, and none in between puts or takes a value under it. Other keys may come, go and be written
  pub put_shown : (t : WithDictionary K V W) (commands : List (JoinedCommand V W)) (replies : List (JoinedReply K V W R)) (i j n : ℕ) (w : W) (before : Option W) (seen : Option R)
      → Run (DictionaryStep given) unused commands replies t → i < j
      → AllByRecursion (λ c. RemovesOther n (detaching.Plain c)) (take j commands) → AllByRecursion (λ c. WritesOther n (detaching.Plain c)) (take (j - (i + 1)) (drop (i + 1) commands))
      → slice_get commands i ≡ Some (command.Put n w) → slice_get commands j ≡ Some (command.Look n)
      → slice_get replies i ≡ Some (reply.Old before) → slice_get replies j ≡ Some (reply.Looked seen)
      → LooksAt given.looks (Some w) seen
  put_shown t commands replies i j n w before seen = shown_after given detaching.Plain n w before seen (command.Put n w) (command.Look n) refl refl t commands replies i j

  -- the same where f tells what is shown of a value
  pub put_seen : (f : W → R) (t : WithDictionary K V W) (commands : List (JoinedCommand V W)) (replies : List (JoinedReply K V W R)) (i j n : ℕ) (w : W) (before : Option W) (seen : Option R)
      → Run (DictionaryStep given) unused commands replies t → Shows given.looks f → i < j
      → AllByRecursion (λ c. RemovesOther n (detaching.Plain c)) (take j commands) → AllByRecursion (λ c. WritesOther n (detaching.Plain c)) (take (j - (i + 1)) (drop (i + 1) commands))
      → slice_get commands i ≡ Some (command.Put n w) → slice_get commands j ≡ Some (command.Look n)
      → slice_get replies i ≡ Some (reply.Old before) → slice_get replies j ≡ Some (reply.Looked seen)
      → seen ≡ Some (f w)
  put_seen f t commands replies i j n w before seen run shows less unremoved unwritten puts looks put looked =
      shows_seen given.looks f w seen shows (put_shown t commands replies i j n w before seen run less unremoved unwritten puts looks put looked)

  -- both for a primary map whose keys can be detached: a Detach or a Reattach of any key may stand between
  pub detach_put_shown : (t : WithDictionary K V W) (commands : List (JoinedDetachCommand V W)) (replies : List (JoinedReply K V W R)) (i j n : ℕ) (w : W) (before : Option W) (seen : Option R)
      → Run (DetachDictionaryStep given) unused commands replies t → i < j
      → AllByRecursion (RemovesOther n) (take j commands) → AllByRecursion (WritesOther n) (take (j - (i + 1)) (drop (i + 1) commands))
      → slice_get commands i ≡ Some (detaching.Plain (command.Put n w)) → slice_get commands j ≡ Some (detaching.Plain (command.Look n))
      → slice_get replies i ≡ Some (reply.Old before) → slice_get replies j ≡ Some (reply.Looked seen)
      → LooksAt given.looks (Some w) seen
  detach_put_shown t commands replies i j n w before seen =
      shown_after given (λ c. c) n w before seen (detaching.Plain (command.Put n w)) (detaching.Plain (command.Look n)) refl refl t commands replies i j

  pub detach_put_seen : (f : W → R) (t : WithDictionary K V W) (commands : List (JoinedDetachCommand V W)) (replies : List (JoinedReply K V W R)) (i j n : ℕ) (w : W) (before : Option W)
      (seen : Option R)
      → Run (DetachDictionaryStep given) unused commands replies t → Shows given.looks f → i < j
      → AllByRecursion (RemovesOther n) (take j commands) → AllByRecursion (WritesOther n) (take (j - (i + 1)) (drop (i + 1) commands))
      → slice_get commands i ≡ Some (detaching.Plain (command.Put n w)) → slice_get commands j ≡ Some (detaching.Plain (command.Look n))
      → slice_get replies i ≡ Some (reply.Old before) → slice_get replies j ≡ Some (reply.Looked seen)
      → seen ≡ Some (f w)
  detach_put_seen f t commands replies i j n w before seen run shows less unremoved unwritten puts looks put looked =
      shows_seen given.looks f w seen shows (detach_put_shown t commands replies i j n w before seen run less unremoved unwritten puts looks put looked)
