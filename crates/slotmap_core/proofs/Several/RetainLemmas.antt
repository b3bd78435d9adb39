-- What `retain` leaves of each entry, by what each call of its closure does.
-- For runs and callers.
use Rattle.std.proofs.Common.{inl, inr, ◌≡◌, ◌≢◌, ℕ, suc, ◌+◌, Bool, true, false, cond, List, [], ◌∷◌, length, Option, Some, None, is_some, refl, sym, subst, ◌∙◌, arith}
use Rattle.std.proofs.Common.{ap}
use Rattle.std.proofs.lemmas.Option.{same_Some}
use Rattle.slotmap_core.specs.Words.{Mut, Called, MutBor, FoldsTo, option_and_then, find, Key, key_cmp, with_entries, Visit, CallsAt, RetainsBy, seen, kept}
use Rattle.slotmap_core.proofs.General.KeyLemmas.{keys_total, exact_keys, tied, itself, same_or_other}
use Rattle.slotmap_core.proofs.General.ListingLemmas.{with_entries-empty, fresh_first, IsListingBut-listing}
use Rattle.slotmap_core.proofs.General.Maps.{none_of, len_inserted}
use Rattle.slotmap_core.proofs.Several.VisitLemmas.{unkept}
use Rattle.std.specs.FinMap as map

-- what a visit leaves of its entry
abbrev pub left_by : {K V : Type 0} → Visit K V → Option V
left_by x = cond x.stays (Some x.after) None

unlisted_if_absent : {V : Type 0} (es : List (Key × V)) (k : Key) → map.contains_key (with_entries map.empty es) k ≡ false → find key_cmp k es ≡ None
unlisted_if_absent es k none = sym (ap (λ m. map.get m k) (with_entries-empty es) ∙ map.get-from_entries keys_total es k) ∙ none_of (map.get (with_entries map.empty es) k) none

module _ {F K V : Type 0} (g : Mut F (K × (MutBor V × Unit {0})) (Bool × (MutBor V × Unit {0}))) (data_of : K → Key) where
  -- an entry that wasn't there isn't there afterwards
  pub retained_none : {f : F} {old new : map.FinMap key_cmp V} → RetainsBy g data_of f old new → (k : Key) → map.get old k ≡ None → map.get new k ≡ None
  retained_none ran k none = grind (arith, map.get-from_entries, keys_total, unkept)

  -- what a look-up of the first visit's key finds, and of another key
  at_first : (x : Visit K V) (xs : List (Visit K V)) (k : Key) → k ≡ data_of x.key
      → (find key_cmp k (seen data_of (x ∷ xs)) ≡ Some x.before) × (find key_cmp (data_of x.key) (kept data_of xs) ≡ None → find key_cmp k (kept data_of (x ∷ xs)) ≡ left_by x)
  at_first x xs k same = grind (arith, itself keys_total exact_keys k)

  past_first : (x : Visit K V) (xs : List (Visit K V)) (k : Key) → k ≢ data_of x.key
      → (find key_cmp k (seen data_of (x ∷ xs)) ≡ find key_cmp k (seen data_of xs)) × (find key_cmp k (kept data_of (x ∷ xs)) ≡ find key_cmp k (kept data_of xs))
  past_first x xs k other = grind (arith, tied keys_total exact_keys k (data_of x.key))

  module _ (Holds : F → Type 0) (Does : Visit K V → Type 0) (each : (f f' : F) (x : Visit K V) → Holds f → CallsAt g f x f' → Holds f' × Does x) where
    visit_of : (f last : F) (xs : List (Visit K V)) → Holds f → FoldsTo (CallsAt g) f xs last
        → length (seen data_of xs) + map.len (map.empty {X = V} {R = key_cmp}) ≡ map.len (with_entries map.empty (seen data_of xs))
        → (k : Key) (v : V) → find key_cmp k (seen data_of xs) ≡ Some v
        → (x : Visit K V) × Does x × (data_of x.key ≡ k) × (x.before ≡ v) × (find key_cmp k (kept data_of xs) ≡ left_by x)
    visit_of f last [] holds calls once k v found = absurd (cc)
    visit_of f last (x ∷ xs) holds calls once k v found =
        let first = fresh_first map.empty (data_of x.key, x.before) (seen data_of xs) once in
        let does = each f calls.0 x holds calls.1 in
        elim (same_or_other k (data_of x.key)) [
          | inl same ↦ (
            x,
            does.1,
            sym same,
            same_Some x.before v (sym (at_first x xs k same).0 ∙ found),
            (at_first x xs k same).1 (unkept data_of (data_of x.key) xs (unlisted_if_absent (seen data_of xs) (data_of x.key) first.0)),
          )
          | inr other ↦
              let there = visit_of calls.0 last xs does.0 calls.2 first.1 k v (sym (past_first x xs k other).0 ∙ found) in
              (there.0, there.1, there.2, there.3, (past_first x xs k other).1 ∙ there.4)
        ]

    -- each entry was visited, and the visit left it as it is afterwards; the calls keep Holds
    pub retained_at : {f : F} {old new : map.FinMap key_cmp V} → Holds f → RetainsBy g data_of f old new → (k : Key) (v : V) → map.get old k ≡ Some v
        → (x : Visit K V) × Does x × (data_of x.key ≡ k) × (x.before ≡ v) × (map.get new k ≡ left_by x)
    retained_at {f} {old} {new} holds ran k v found =
        let all = IsListingBut-listing old (seen data_of ran.visits) ran.listed in
        let there = visit_of f ran.last ran.visits holds ran.calls (all.once ∙ ap map.len (sym all.all)) k v
        (sym (map.get-from_entries keys_total (seen data_of ran.visits) k) ∙ ap (λ m. map.get m k) ran.listed.all ∙ found) in
        (there.0, there.1, there.2, there.3, ap (λ m. map.get m k) ran.stay ∙ map.get-from_entries keys_total (kept data_of ran.visits) k ∙ there.4)

  -- what each call does to its entry, the whole iteration does to each entry
  retained : (Made : Key → Option V → Option V → Type 0) → ((q : Key) → Made q None None) → (Holds : F → Type 0)
      → ((f f' : F) (x : Visit K V) → Holds f → CallsAt g f x f' → Holds f' × Made (data_of x.key) (Some x.before) (left_by x))
      → {f : F} {old new : map.FinMap key_cmp V} → Holds f → RetainsBy g data_of f old new → (k : Key) → Made k (map.get old k) (map.get new k)
  retained Made none Holds each {f} {old} {new} holds ran k = by (map.get old k) refl
    where
      by : (o : Option V) → map.get old k ≡ o → Made k o (map.get new k)
      by None gone = subst (Made k None) (sym (retained_none ran k gone)) (none k)
      by (Some v) found =
          let there = retained_at Holds (λ x. Made (data_of x.key) (Some x.before) (left_by x)) each holds ran k v found in
          subst (Made k (Some v)) (sym there.4) (subst (λ w. Made k (Some w) (left_by there.0)) there.3 (subst (λ q. Made q (Some there.0.before) (left_by there.0)) there.2 there.1))

  -- if each call leaves `left` of its entry, so does the whole iteration
  pub retained_as : (left : Key → V → Option V) (Holds : F → Type 0)
      → ((f f' : F) (key : K) (shown after : MutBor V) (stays : Bool) → Holds f → Called g f (key, (shown, tt)) (stays, (after, tt)) f' → Holds f'
      × (cond stays (Some after.now) None ≡ left (data_of key) shown.now))
      → {f : F} {old new : map.FinMap key_cmp V} → Holds f → RetainsBy g data_of f old new → (k : Key) → map.get new k ≡ option_and_then (left k) (map.get old k)
  retained_as left Holds each = retained (λ q o p. p ≡ option_and_then (left q) o) (λ q. refl) Holds (λ f f' x holds call.
      let one = each f f' x.key call.shown call.left x.stays holds call.called in
      (one.0, ap (λ v. cond x.stays (Some v) None) (sym call.leaves) ∙ one.1 ∙ ap (left (data_of x.key)) call.shows))

  -- if no call writes, no value changes
  pub retained_unwritten : ((f f' : F) (key : K) (shown after : MutBor V) (stays : Bool) → Called g f (key, (shown, tt)) (stays, (after, tt)) f' → after.now ≡ shown.now)
      → {f : F} {old new : map.FinMap key_cmp V} → RetainsBy g data_of f old new → (k : Key) → map.contains_key new k ≡ true → map.get new k ≡ map.get old k
  retained_unwritten same {f} {old} {new} = retained (λ q o p. is_some p ≡ true → p ≡ o) (λ q is. refl) (λ f. Unit {0})
      (λ f f' x holds call. (tt, stayed x.stays x.after x.before (sym call.leaves ∙ same f f' x.key call.shown call.left x.stays call.called ∙ call.shows))) tt
    where
      stayed : (s : Bool) (after before : V) → after ≡ before → is_some (cond s (Some after) None) ≡ true → cond s (Some after) None ≡ Some before
      stayed stays after before is some = grind arith

  -- how many calls there were, and how many of the entries stay
  stay_once : (xs : List (Visit K V)) → length (seen data_of xs) + map.len (map.empty {X = V} {R = key_cmp}) ≡ map.len
      (with_entries map.empty (seen data_of xs)) → map.len (map.from_entries {R = key_cmp} (kept data_of xs)) ≡ length (kept data_of xs)
  stay_once [] once = map.len-empty key_cmp V
  stay_once (x ∷ xs) once =
      let first = fresh_first map.empty (data_of x.key, x.before) (seen data_of xs) once in
      let none = unkept data_of (data_of x.key) xs (unlisted_if_absent (seen data_of xs) (data_of x.key) first.0) in
      let one_more = len_inserted keys_total exact_keys (map.from_entries (kept data_of xs)) (data_of x.key) x.after in
      grind (arith, stay_once xs first.1, map.get-from_entries keys_total (kept data_of xs) (data_of x.key), none, one_more)

  module _ (Holds : (calls stay : ℕ) → F → Type 0) (each : (calls stay : ℕ) (f f' : F) (key : K) (shown after : MutBor V) (stays : Bool)
      → Holds calls stay f → Called g f (key, (shown, tt)) (stays, (after, tt)) f' → Holds (calls + 1) (stay + cond stays 1 0) f') where
    along : (calls stay : ℕ) (f last : F) (xs : List (Visit K V)) → Holds calls stay f → FoldsTo (CallsAt g) f xs last → Holds (calls + length xs) (stay + length (kept data_of xs)) last
    along calls stay f last [] holds ran = subst (λ f. Holds (calls + 0) (stay + 0) f) ran (subst (λ n. Holds n (stay + 0) f) (omega arith) (subst (λ n. Holds calls n f) (omega arith) holds))
    along calls stay f last (x ∷ xs) holds ran = grind (arith, along (calls + 1) (stay + cond x.stays 1 0) ran.0 last xs, each calls stay f ran.0 x.key ran.1.shown ran.1.left x.stays)

  -- if each call keeps a fact about the number of calls, the number of entries that stay, and the closure's state, the fact
  -- holds at the end
  pub retained_counted : (Holds : (calls stay : ℕ) → F → Type 0)
      → ((calls stay : ℕ) (f f' : F) (key : K) (shown after : MutBor V) (stays : Bool) → Holds calls stay f
      → Called g f (key, (shown, tt)) (stays, (after, tt)) f' → Holds (calls + 1) (stay + cond stays 1 0) f')
      → {f : F} {old new : map.FinMap key_cmp V} → Holds 0 0 f → RetainsBy g data_of f old new → (last : F) × Holds (map.len old) (map.len new) last
  retained_counted Holds each {f} {old} {new} holds ran =
      let all = IsListingBut-listing old (seen data_of ran.visits) ran.listed in
      let calls : 0 + length ran.visits ≡ map.len old = omega (arith, seen_len ran.visits, ran.listed.once) in
      let stay : 0 + length (kept data_of ran.visits) ≡ map.len new = omega (arith, ap map.len ran.stay, stay_once ran.visits (all.once ∙ ap map.len (sym all.all))) in
      (ran.last, subst (λ n. Holds n (map.len new) ran.last) calls (subst (λ n. Holds (0 + length ran.visits) n ran.last) stay (along Holds each 0 0 f ran.last ran.visits holds ran.calls)))
    where
      seen_len : (xs : List (Visit K V)) → length (seen data_of xs) ≡ length xs
      seen_len [] = refl
      seen_len (x ∷ xs) = ap suc (seen_len xs)
