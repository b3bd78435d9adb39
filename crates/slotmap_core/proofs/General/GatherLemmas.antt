-- What a gathered map or set has at each key, and how a change of one element changes it.
-- For the crates of maps.
use Rattle.std.proofs.Common.{◌≡◌, ◌≢◌, ◌⊎◌, ◌+◌, ◌<◌, ◌∷◌, ◌++◌, set, arith, ℕ, zero, suc, Bool, true, cond, List, [], length, slice_get, Option, None, Some}
use Rattle.std.proofs.lemmas.Option.{gets, slice_get_cases, slice_get-get_or, slice_get_within, slice_get_past}
use Rattle.std.proofs.lemmas.Grind.{common_steps}
use Rattle.std.proofs.lemmas.List.{length-set, get_or-set_same, get_or-set_other}
use Rattle.slotmap_core.specs.Words.{AllZip, add, gather, is_some, refl}

-- the laws of a finite map, by its look-ups
pub record IsFinite {K X M : Type 0} (same_key : K → K → Bool) (empty : M) (get : M → K → Option X) (put : M → K × X → M) (remove : M → K → M) (len : M → ℕ) : Type 0 where
  pub get-empty : (q : K) → get empty q ≡ None
  pub get-put : (m : M) (e : K × X) (q : K) → get (put m e) q ≡ cond (same_key q e.0) (Some e.1) (get m q)
  pub get-remove : (m : M) (k q : K) → get (remove m k) q ≡ cond (same_key q k) None (get m q)
  pub len-empty : len empty ≡ 0
  pub len-put : (m : M) (e : K × X) → len (put m e) ≡ cond (is_some (get m e.0)) (len m) (len m + 1)
  pub same : (m n : M) → ((q : K) → get m q ≡ get n q) → m ≡ n
  pub is_same : (a b : K) → same_key a b ≡ true → a ≡ b
  pub itself : (a : K) → same_key a a ≡ true

pub slice_get-set_same : {X : Type 0} (xs : List X) (i : ℕ) (x : X) → i < length xs → slice_get (set xs i x) i ≡ Some x
slice_get-set_same xs i x within = grind (arith, length-set, get_or-set_same, slice_get-get_or (set xs i x) i x)

pub slice_get-set_other : {X : Type 0} (xs : List X) (i j : ℕ) (x : X) → j ≢ i → slice_get (set xs i x) j ≡ slice_get xs j
slice_get-set_other xs i j x other = grind (arith, gets, length-set, get_or-set_other)

pub slice_get_push : {X : Type 0} (xs : List X) (x : X) → slice_get (xs ++ x ∷ []) (length xs) ≡ Some x
slice_get_push xs x = grind (arith, common_steps, slice_get-get_or (xs ++ x ∷ []) (length xs) x)

pub slice_get_push_other : {X : Type 0} (xs : List X) (x : X) (j : ℕ) → j ≢ length xs → slice_get (xs ++ x ∷ []) j ≡ slice_get xs j
slice_get_push_other xs x j other = grind (arith, common_steps, slice_get_cases)

-- the element at an index after a write, or after a push: the new element, or the old one there
pub at_set : {X : Type 0} (xs : List X) (i : ℕ) (x old : X) → slice_get xs i ≡ Some old → (j : ℕ) (y : X) → slice_get (set xs i x) j ≡ Some y
    → ((j ≡ i) × (x ≡ y)) ⊎ ((j ≢ i) × (slice_get xs j ≡ Some y))
at_set xs i x old found j y there = grind (arith, slice_get-set_same, slice_get-set_other, slice_get_within)

pub at_push : {X : Type 0} (xs : List X) (x : X) (j : ℕ) (y : X) → slice_get (xs ++ x ∷ []) j ≡ Some y
    → ((j ≡ length xs) × (x ≡ y)) ⊎ ((j ≢ length xs) × (slice_get xs j ≡ Some y))
at_push xs x j y there = grind (arith, slice_get_push xs x, slice_get_push_other xs x j)

module _ {P K X M : Type 0} {same_key : K → K → Bool} {empty : M} {get : M → K → Option X} {put : M → K × X → M} {remove : M → K → M} {len : M → ℕ}
    (laws : IsFinite same_key empty get put remove len) (index : K → ℕ) (entry : ℕ → P → Option (K × X))
    (fits : (i : ℕ) (p : P) (e : K × X) → entry i p ≡ Some e → index e.0 ≡ i) where
  -- what an entry says at a key, in place of what was there
  abbrev pub pick : K → Option (K × X) → Option X → Option X
  pick q None d = d
  pick q (Some e) d = cond (same_key q e.0) (Some e.1) d

  abbrev pub look : K → Option P → Option X
  look q None = None
  look q (Some p) = pick q (entry (index q) p) None

  pub get_before : (i : ℕ) (ps : List P) (q : K) → index q < i → get (gather empty put entry i ps) q ≡ None
  get_before i [] q before = laws.get-empty q
  get_before i (p ∷ ps) q before = grind (arith, get_before (i + 1) ps q (omega arith))

  get_from : (i : ℕ) (ps : List P) (j : ℕ) (q : K) → index q ≡ i + j → get (gather empty put entry i ps) q ≡ look q (slice_get ps j)
  get_from i [] j q at = laws.get-empty q
  get_from i (p ∷ ps) zero q at = grind (arith, get_before (i + 1) ps q (omega arith), laws.get-put)
  get_from i (p ∷ ps) (suc j) q at = grind (arith, get_from (i + 1) ps j q (omega arith))

  -- a look-up reads only the element at the key's index
  pub get-gather : (ps : List P) (q : K) → get (gather empty put entry 0 ps) q ≡ look q (slice_get ps (index q))
  get-gather ps q = get_from 0 ps (index q) q (omega arith)

  pub len-add : (i : ℕ) (p : P) (ps : List P) → len (gather empty put entry i (p ∷ ps)) ≡ cond (is_some (entry i p)) 1 0 + len (gather empty put entry (i + 1) ps)
  len-add i p ps = grind (arith, laws.len-put, get_before (i + 1) ps, fits i p)

  -- what is read after a write: what the new element says at its index, and what was read before elsewhere
  get-gather_set : (ps : List P) (i : ℕ) (old new : P) (q : K) → slice_get ps i ≡ Some old
      → ((index q ≡ i) × (get (gather empty put entry 0 (set ps i new)) q ≡ pick q (entry i new) None) × (get (gather empty put entry 0 ps) q ≡ pick q (entry i old) None))
      ⊎ ((index q ≢ i) × (get (gather empty put entry 0 (set ps i new)) q ≡ get (gather empty put entry 0 ps) q))
  get-gather_set ps i old new q found = grind (arith, get-gather, slice_get-set_same ps i new, slice_get-set_other, slice_get_within ps i old found)

  pick_other : (i : ℕ) (p : P) (q : K) (d : Option X) → index q ≢ i → pick q (entry i p) d ≡ d
  pick_other i p q d other = grind (arith, fits i p, laws.is_same q)

  without : (i : ℕ) (p : P) (m : M) (q : K)
      → (index q ≢ i → get (add (λ m e. remove m e.0) (entry i p) m) q ≡ get m q) × (get m q ≡ pick q (entry i p) None → get (add (λ m e. remove m e.0) (entry i p) m) q ≡ None)
  without i p m q = grind (arith, fits i p, laws.get-remove m, laws.is_same q)

  -- the old element's entry is removed, and the new one's is added
  pub gather-set : (ps : List P) (i : ℕ) (old new : P) → slice_get ps i ≡ Some old
      → gather empty put entry 0 (set ps i new) ≡ add put (entry i new) (add (λ m e. remove m e.0) (entry i old) (gather empty put entry 0 ps))
  gather-set ps i old new found = laws.same _ _ (λ q. grind (arith, get-gather_set ps i old new q found, without i old (gather empty put entry 0 ps) q, pick_other i new q))

  -- the new element's entry is added, if none was there, or one of the same key
  pub gather-set_put : (ps : List P) (i : ℕ) (old new : P) (e : K × X) → slice_get ps i ≡ Some old → entry i new ≡ Some e
      → ((f : K × X) → entry i old ≡ Some f → f.0 ≡ e.0) → gather empty put entry 0 (set ps i new) ≡ put (gather empty put entry 0 ps) e
  gather-set_put ps i old new e found gives over = grind (arith, get-gather_set ps i old new)

  -- the old element's entry is removed
  pub gather-set_remove : (ps : List P) (i : ℕ) (old new : P) (e : K × X) → slice_get ps i ≡ Some old → entry i old ≡ Some e → entry i new ≡ None
      → gather empty put entry 0 (set ps i new) ≡ remove (gather empty put entry 0 ps) e.0
  gather-set_remove ps i old new e found gave gives = rw (gives, gave) at (gather-set ps i old new found)

  -- one more element at the end
  pub gather-push : (ps : List P) (new : P) → gather empty put entry 0 (ps ++ new ∷ []) ≡ add put (entry (length ps) new) (gather empty put entry 0 ps)
  gather-push ps new = laws.same _ _ (λ q. grind (arith, get-gather ps q, get-gather (ps ++ new ∷ []) q, slice_get_push ps new, slice_get_push_other, slice_get_past, pick_other))

  pub gather-push_put : (ps : List P) (new : P) (e : K × X) → entry (length ps) new ≡ Some e → gather empty put entry 0 (ps ++ new ∷ []) ≡ put (gather empty put entry 0 ps) e
  gather-push_put ps new e gives = rw gives at (gather-push ps new)

  pub gather-push_same : (ps : List P) (new : P) → entry (length ps) new ≡ None → gather empty put entry 0 (ps ++ new ∷ []) ≡ gather empty put entry 0 ps
  gather-push_same ps new gives = rw gives at (gather-push ps new)

  pub len-set : (j : ℕ) (ps : List P) (i : ℕ) (old new : P) → slice_get ps i ≡ Some old
      → len (gather empty put entry j (set ps i new)) + cond (is_some (entry (j + i) old)) 1 0 ≡ len (gather empty put entry j ps) + cond
      (is_some (entry (j + i) new)) 1 0
  len-set j [] i old new found = absurd (cc)
  len-set j (p ∷ ps) zero old new found = grind (arith, len-add j p ps, len-add j new ps)
  len-set j (p ∷ ps) (suc i) old new found = grind (arith, len-add, len-set (j + 1) ps i old new found)

  pub len-push : (j : ℕ) (ps : List P) (new : P) → len (gather empty put entry j (ps ++ new ∷ [])) ≡ len (gather empty put entry j ps) + cond (is_some (entry (j + length ps) new)) 1 0
  len-push j [] new = grind (arith, len-add j new [])
  len-push j (p ∷ ps) new = grind (arith, len-add j p ps, len-add j p (ps ++ new ∷ []), len-push (j + 1) ps new)

-- two lists whose elements have the same entries, one by one
pub gather-agree : {P Q E M : Type 0} (R : P → Q → Type 0) (empty : M) (put : M → E → M) (f : ℕ → P → Option E) (g : ℕ → Q → Option E)
    → ((i : ℕ) (p : P) (q : Q) → R p q → g i q ≡ f i p) → (i : ℕ) (ps : List P) (qs : List Q) → AllZip R ps qs → gather empty put g i qs ≡ gather empty put f i ps
gather-agree R empty put f g same i [] [] all = refl
gather-agree R empty put f g same i (p ∷ ps) (q ∷ qs) all = rw (same i p q all.0, gather-agree R empty put f g same (i + 1) ps qs all.1)
gather-agree R empty put f g same i _ _ all = absurd all
