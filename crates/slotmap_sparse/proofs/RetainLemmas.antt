-- What calls of a closure on each entry of a hash map leave, as visits of keys.
use Rattle.std.specs.FinMap as map
use Rattle.std.proofs.Common.{◌≡◌, ◌+◌, ◌∷◌, ◌++◌, ℕ, Bool, cond, nat_eq, List, [], length, Some, None, is_some, refl, sym, ap, subst, ◌∙◌, arith}
use Rattle.slotmap_core.specs.Words.{MutBor}
use Rattle.slotmap_core.proofs.Common.{nat_eq_equiv, IsDistinct, RetainsPairs, SomeCallAtPair, IsListingBut, with_entries, RetainsBy, keyed_entry, lookup_head, key_from-odd, get-keyed, Visits-rest}
use Rattle.slotmap_core.proofs.Common.{Mut, FoldsTo, keys_of, Key, IsKey, key_cmp, Visit, CallsAt, MayCome, seen, kept, Pairs, keyed, value_at}
use Rattle.slotmap_sparse.specs.Entries.{pairs_of, IsSound, VisitsPair}
use Rattle.slotmap_sparse.specs.Iter.{key_pairs, IsOfKey, AreOfKeys}
use Rattle.slotmap_sparse.proofs.{EntriesLemmas.get-pairs, IterLemmas.listing, IterLemmas.of_keys}

module _ {V : Type 0} where
  -- two parts of a list of entries, and what is known of each
  of_split : (xs ys : List (ℕ × (ℕ × V))) → AreOfKeys (xs ++ ys) → AreOfKeys xs × AreOfKeys ys
  of_split [] ys of = (tt, of)
  of_split (x ∷ xs) ys of = let rest = of_split xs ys of.1 in ((of.0, rest.0), rest.1)

  distinct_from : (xs ys : List (ℕ × (ℕ × V))) → IsDistinct nat_eq (keys_of (xs ++ ys)) → IsDistinct nat_eq (keys_of ys)
  unfolding IsDistinct
  distinct_from [] ys unique = unique
  distinct_from (x ∷ xs) ys unique = distinct_from xs ys unique.1

  with_first : (xs ys : List (ℕ × (ℕ × V))) → map.from_entries {R = key_cmp} (key_pairs (xs ++ ys)) ≡ with_entries (map.from_entries (key_pairs ys)) (key_pairs xs)
  with_first [] ys = refl
  with_first (x ∷ xs) ys = ap (λ m. map.insert m (keyed_entry x).0 (keyed_entry x).1) (with_first xs ys)

  len_split : (xs ys : List (ℕ × (ℕ × V))) → length (key_pairs (xs ++ ys)) ≡ length (key_pairs xs) + length (key_pairs ys)
  len_split [] ys = omega arith
  len_split (x ∷ xs) ys = omega (arith, len_split xs ys)

  listed_before : (xs ys : List (ℕ × (ℕ × V))) (p : Pairs V) → pairs_of (xs ++ ys) ≡ p → IsDistinct nat_eq (keys_of (xs ++ ys))
      → IsListingBut (keyed p) (key_pairs xs) (keyed (pairs_of ys))
  listed_before xs ys p is unique = grind (arith, listing, listing ys (pairs_of ys), distinct_from xs ys unique, with_first xs ys, len_split xs ys)

  first_there : (e : ℕ × (ℕ × V)) (es : List (ℕ × (ℕ × V))) → map.get (keyed (pairs_of (e ∷ es))) (keyed_entry e).0 ≡ Some e.1.1
  first_there e es =
      get-keyed (pairs_of (e ∷ es)) (keyed_entry e).0 ∙ ap (value_at e.1.0) (get-pairs (e ∷ es) e.0 ∙ lookup_head (nat_eq e.0) e es (nat_eq_equiv.refl e.0))
      ∙ ap (λ b. cond b (Some e.1.1) None) (nat_eq_equiv.refl e.1.0)

module _ {F G K V : Type 0} (g : Mut F (K × (MutBor V × Unit {0})) (Bool × (MutBor V × Unit {0}))) (data_of : K → Key)
    (T : G → ℕ → ℕ × V → Bool → ℕ × V → G → Type 0) (state : G → F) where
  -- a call on an entry shows the key and the value, and keeps the version
  abbrev ShowsEach : Type 0
  ShowsEach = (c : G) (i : ℕ) (p : ℕ × V) (b : Bool) (q : ℕ × V) (d : G) → T c i p b q d → VisitsPair g data_of (state c) i p b q (state d)

  pub record Visited (c : G) (es left : List (ℕ × (ℕ × V))) : Type 0 where
    pub visits : List (Visit K V)
    pub last : F
    pub calls : FoldsTo (CallsAt g) (state c) visits last
    pub saw : seen data_of visits ≡ key_pairs es
    pub stay : kept data_of visits ≡ key_pairs left
    pub of : AreOfKeys left

  -- the calls on the entries before one, as visits
  record Came (c d : G) (es : List (ℕ × (ℕ × V))) : Type 0 where
    pub visits : List (Visit K V)
    pub calls : FoldsTo (CallsAt g) (state c) visits (state d)
    pub saw : seen data_of visits ≡ key_pairs es

  came : ShowsEach → (c d : G) (es : List (ℕ × (ℕ × V))) → AreOfKeys es → FoldsTo (SomeCallAtPair T) c es d → Came c d es
  came shows c d [] of run = record { visits = []; calls = ap state run; saw = refl }
  came shows c d (e ∷ es) of run =
      let call = shows c e.0 e.1 run.1.0 run.1.1 run.0 run.1.2 in
      let named : data_of call.key ≡ record { index = e.0; version = e.1.0 } = call.named ∙ key_from-odd e.0 e.1.0 of.0.1 of.0.0.odd in
      let more = came shows run.0 d es of.1 run.2 in
      let one : Visit K V = record { key = call.key; before = e.1.1; after = run.1.1.1; stays = run.1.0 } in
      record {
        visits = one ∷ more.visits;
        calls = (state run.0, call.called, more.calls);
        saw = λ i. (named i, e.1.1) ∷ more.saw i;
      }

  -- the closure comes to an entry as the calls on those before it left it, and the entry is one of the map
  pub comes_to : ShowsEach → (c d : G) (xs ys : List (ℕ × (ℕ × V))) (e : ℕ × (ℕ × V)) (p : Pairs V) → pairs_of (xs ++ e ∷ ys) ≡ p → IsSound (xs ++ e ∷ ys)
      → FoldsTo (SomeCallAtPair T) c xs d
      → IsOfKey e × MayCome g data_of (state c) (keyed p) (keyed_entry e).0 (state d) × (map.get (keyed p) (keyed_entry e).0 ≡ Some e.1.1)
  comes_to shows c d xs ys e p is sound run =
      let of = of_split xs (e ∷ ys) (of_keys (xs ++ e ∷ ys) sound) in
      let before = came shows c d xs of.0 run in
      let rest = keyed (pairs_of (e ∷ ys)) in
      let listed : IsListingBut (keyed p) (seen data_of before.visits) rest = subst (λ (x : List (Key × V)). IsListingBut (keyed p) x rest)
      (sym before.saw) (listed_before xs (e ∷ ys) p is sound.unique) in
      let here = first_there e ys in (
        of.1.0,
        record { visits = before.visits; calls = before.calls; rest = rest; listed = listed; to_come = ap is_some here },
        Visits-rest data_of (keyed p) before.visits rest (with_entries rest (kept data_of before.visits)) (record { listed = listed; stay = refl }) (keyed_entry e).0 e.1.1 here,
      )

  pub visited : ShowsEach → (c : G) (es left : List (ℕ × (ℕ × V))) → AreOfKeys es → RetainsPairs T c es left → Visited c es left
  visited shows c [] left of run =
      record { visits = []; last = state c; calls = refl; saw = refl; stay = ap key_pairs (sym run); of = (subst (λ (x : List (ℕ × (ℕ × V))). AreOfKeys x) (sym run) tt) }
  visited shows c (e ∷ es) left of run =
      let b = run.0 in
      let w = run.1 in
      let d = run.2 in
      let rest = run.3 in
      let call = shows c e.0 e.1 b w d run.4 in
      let key = call.key in
      let named : data_of key ≡ record { index = e.0; version = e.1.0 } = call.named ∙ key_from-odd e.0 e.1.0 of.0.1 of.0.0.odd in
      let more = visited shows d es rest of.1 run.5 in
      let one : Visit K V = record { key = key; before = e.1.1; after = w.1; stays = b } in
      let here : IsOfKey (e.0, w) = (subst (λ (n : ℕ). IsKey (record { index = e.0; version = n })) (sym call.version) of.0.0, of.0.1) in
      let same : ◌≡◌ {A = Key × V} (data_of key, w.1) (keyed_entry (e.0, w)) = λ i. ((named ∙ (λ j. record { index = e.0; version = sym call.version j })) i, w.1) in
      record {
        visits = one ∷ more.visits;
        last = more.last;
        calls = (state d, call.called, more.calls);
        saw = λ i. (named i, e.1.1) ∷ more.saw i;
        stay = grind (arith, same, more.stay, run.6);
        of = rw run.6 (grind (arith, here, more.of));
      }

  pub retains_by : (c : G) (es left : List (ℕ × (ℕ × V))) (p : Pairs V) → pairs_of es ≡ p → IsDistinct nat_eq (keys_of es)
      → IsDistinct nat_eq (keys_of left) → Visited c es left → RetainsBy g data_of (state c) (keyed p) (keyed (pairs_of left))
  retains_by c es left p is unique still done = grind (arith, listing es p is unique, listing left)

module _ {F K V : Type 0} (g : Mut F (K × (MutBor V × Unit {0})) (Bool × (MutBor V × Unit {0}))) (data_of : K → Key) where
  -- what one call on an entry says of the entry itself
  pub shown_at : (i j : ℕ) (p p' q q' : ℕ × V) (b : Bool) (f f' : F) → j ≡ i → p' ≡ p → q' ≡ q → VisitsPair g data_of f j p' b q' f' → VisitsPair g data_of f i p b q f'
  shown_at i j p p' q q' b f f' at before after visits = grind arith
