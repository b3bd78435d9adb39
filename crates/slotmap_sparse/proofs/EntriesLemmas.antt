-- The entries of a hash map as a finite map.
use Rattle.std.specs.FinMap as map
use Rattle.std.proofs.Common.{◌≢◌, ◌≡◌, ◌+◌, ◌∷◌, ◌≤◌, HashMap, hash_map_len, is_some, subst, ◌∙◌, nat_cmp, MutBor, Result, ne_eqb, eq-eqb, nat_eq, length, Option}
use Rattle.std.proofs.Common.{None, refl, ap, arith, inl, inr, Ok, OnOk, ℕ, true, false, cond, List, [], Some, sym}
use Rattle.slotmap_core.proofs.Common.{option_copied_mut, nat_cmp_total, exact_unsigned, none_past_head, get_after_insert, IsSecondary-empty, IsSecondary-bind, IsSecondary-put, IsSecondary-remove}
use Rattle.slotmap_core.proofs.Common.{eq_by_cmp, unsigned_tied, nat_eq_equiv, IsDistinct, WritesThrough, IsSecondary, contains_key, lookup-none, len_inserted, insert_same, same_version, not_null_at}
use Rattle.slotmap_core.proofs.Common.{find, spare, lookup, keys_of, Key, IsKey, Pairs, is_null, bind, put, get, value_at, get_here, put_at}
use Rattle.slotmap_sparse.specs.Content.{SparseContent, IsSparseContent, sparse_with_value, room}
use Rattle.slotmap_sparse.specs.Found.{put_over}
use Rattle.slotmap_sparse.specs.Entries.{pairs_of, content_of, IsSound}

turned : (k q : ℕ) → nat_eq k q ≡ eq_by_cmp nat_cmp q k
turned k q = nat_eq_equiv.symm k q ∙ sym (unsigned_tied q k)

abbrev Entries : Type 0 → Type 0
Entries V = List (ℕ × (ℕ × V))

module _ {V : Type 0} where
  find-lookup : (q : ℕ) (es : Entries V) → find nat_cmp q es ≡ lookup (nat_eq q) es
  find-lookup q [] = refl
  find-lookup q (e ∷ es) = (λ i. cond (unsigned_tied q e.0 i) (Some e.1) (find-lookup q es i))

  pub get-pairs : (es : Entries V) (q : ℕ) → map.get (pairs_of es) q ≡ lookup (nat_eq q) es
  get-pairs es q = map.get-from_entries nat_cmp_total es q ∙ find-lookup q es

  -- what the hash map finds, the content has
  pub found_pair : (es : Entries V) (p : Pairs V) → pairs_of es ≡ p → (q : ℕ) → lookup (nat_eq q) es ≡ map.get p q
  found_pair es p is q = sym (get-pairs es q) ∙ ap (λ (x : Pairs V). map.get x q) is

  -- what a look-up of an index finds is at the index of the key
  pub stands_at : {S : Type 0} (m : HashMap ℕ (ℕ × V) S) (c : SparseContent V) → content_of m ≡ c → (k : Key) (i : ℕ) → i ≡ k.index → (o : Option (ℕ × V))
      → lookup (nat_eq i) m.entries ≡ o
      → map.get c.pairs k.index ≡ o
  stands_at m c is k i at o found = sym (found_pair m.entries c.pairs (ap (λ (x : SparseContent V). x.pairs) is) i ∙ ap (map.get c.pairs) at) ∙ found

  -- what a key finds at a pair that a look-up of its index lends
  module _ {S : Type 0} (m : HashMap ℕ (ℕ × V) S) (c : SparseContent V) (is : content_of m ≡ c) (k : Key) (i : ℕ) (at : i ≡ k.index) (p : ℕ × V)
      (stood : lookup (nat_eq i) m.entries ≡ Some p) where
    pub found_own : p.0 ≡ k.version → get c.pairs k ≡ Some p.1
    found_own same = get_here c.pairs k p (stands_at m c is k i at (Some p) stood) (eq-eqb p.0 k.version same)

    pub found_none : p.0 ≢ k.version → get c.pairs k ≡ None
    found_none other = ap (value_at k.version) (stands_at m c is k i at (Some p) stood) ∙ ap (λ b. cond b (Some p.1) None) (ne_eqb p.0 k.version other)

  pub same_pairs : (es fs : Entries V) → ((q : ℕ) → lookup (nat_eq q) fs ≡ lookup (nat_eq q) es) → pairs_of fs ≡ pairs_of es
  same_pairs es fs same = map.same_map nat_cmp_total exact_unsigned _ _ (λ q. get-pairs fs q ∙ same q ∙ sym (get-pairs es q))

  pub pairs_put : (es fs : Entries V) (k : ℕ) (p : ℕ × V) → ((q : ℕ) → lookup (nat_eq q) fs ≡ cond (nat_eq k q) (Some p) (lookup (nat_eq q) es))
      → pairs_of fs ≡ map.insert (pairs_of es) k p
  pairs_put es fs k p h =
      map.same_map nat_cmp_total exact_unsigned _ _ (λ q.
      get-pairs fs q ∙ h q ∙ (λ i. cond (turned k q i) (Some p) (sym (get-pairs es q) i)) ∙ sym (map.get-insert nat_cmp_total (pairs_of es) k p q))

  pub pairs_taken : (es fs : Entries V) (k : ℕ) → ((q : ℕ) → lookup (nat_eq q) fs ≡ cond (nat_eq k q) None (lookup (nat_eq q) es)) → pairs_of fs ≡ map.remove (pairs_of es) k
  pairs_taken es fs k h =
      map.same_map nat_cmp_total exact_unsigned _ _ (λ q.
      get-pairs fs q ∙ h q ∙ (λ i. cond (turned k q i) None (sym (get-pairs es q) i)) ∙ sym (map.get-remove nat_cmp_total (pairs_of es) k q))

  none_there : (e : ℕ × (ℕ × V)) (es : Entries V) → IsDistinct nat_eq (keys_of (e ∷ es)) → map.contains_key (pairs_of es) e.0 ≡ false
  none_there e es h = ap is_some (get-pairs es e.0 ∙ lookup-none (nat_eq e.0) es (none_past_head nat_eq_equiv e.0 e es h (nat_eq_equiv.refl e.0)))

  pub len-pairs : (es : Entries V) → IsDistinct nat_eq (keys_of es) → map.len (pairs_of es) ≡ length es
  unfolding IsDistinct
  len-pairs [] h = map.len-empty nat_cmp (ℕ × V)
  len-pairs (e ∷ es) h = omega (arith, len_inserted nat_cmp_total exact_unsigned (pairs_of es) e.0 e.1 (none_there e es h), len-pairs es h.1)

  valid_pairs : (es : Entries V) (p : Pairs V) → pairs_of es ≡ p → IsSound es → IsSecondary p
  valid_pairs es p is sound = subst (λ (x : Pairs V). IsSecondary x) is sound.keys

  pub same_len : (es : Entries V) (p : Pairs V) → pairs_of es ≡ p → IsSound es → map.len p ≡ length es
  same_len es p is sound = sym (ap (λ (x : Pairs V). map.len x) is) ∙ len-pairs es sound.unique

  -- what is sound is well formed
  pub well_formed : {S : Type 0} (m : HashMap ℕ (ℕ × V) S) (c : SparseContent V) → content_of m ≡ c → IsSound m.entries → IsSparseContent c
  well_formed m c is sound =
      let pairs = ap (λ (x : SparseContent V). x.pairs) is in
      let memory : hash_map_len m + spare m ≡ c.capacity = ap (λ (x : SparseContent V). x.capacity) is in
      let long = same_len m.entries c.pairs pairs sound in
      record { keys = valid_pairs m.entries c.pairs pairs sound; fits = omega (arith, memory, long) }

  -- there is memory for as many further keys as the hash map has spare entries
  spare_room : {S : Type 0} (m : HashMap ℕ (ℕ × V) S) (c : SparseContent V) → content_of m ≡ c → IsSound m.entries → room c ≡ spare m
  spare_room m c is sound = grind (arith, same_len)

  -- so with no fewer spare entries there is memory for no fewer keys
  pub more_room : {S : Type 0} (m n : HashMap ℕ (ℕ × V) S) (c : SparseContent V) → content_of m ≡ c → IsSound m.entries → IsSound n.entries
      → spare m ≤ spare n → room c ≤ room (content_of n)
  more_room m n c is sound after more = omega (arith, spare_room m c is sound, spare_room n (content_of n) refl after, more)

  pub IsSound-empty : (es : Entries V) → IsDistinct nat_eq (keys_of es) → es ≡ [] → IsSound es
  IsSound-empty es unique none = record { unique = unique; keys = subst (λ (fs : Entries V). IsSecondary (pairs_of fs)) (sym none) IsSecondary-empty }

  -- with the same pairs, and no index twice
  pub IsSound-same : (es fs : Entries V) → IsSound es → IsDistinct nat_eq (keys_of fs) → pairs_of fs ≡ pairs_of es → IsSound fs
  IsSound-same es fs sound unique same = record { unique = unique; keys = subst (λ (x : Pairs V). IsSecondary x) (sym same) sound.keys }

  -- with a key put
  IsSound-put : (es fs : Entries V) → IsSound es → IsDistinct nat_eq (keys_of fs) → (k : Key) (v : V) → IsKey k → is_null k ≡ false
      → pairs_of fs ≡ bind (pairs_of es) k v → IsSound fs
  IsSound-put es fs sound unique k v is key put = record { unique = unique; keys = subst (λ (x : Pairs V). IsSecondary x) (sym put) (IsSecondary-bind (pairs_of es) k v sound.keys is key) }

  -- with an entry under the index and the version of a key, where the hash map had none
  pub IsSound-added : (es fs : Entries V) → IsSound es → IsDistinct nat_eq (keys_of fs) → (k : Key) (v : V) → IsKey k → is_null k ≡ false → (i version : ℕ)
      → i ≡ k.index → version ≡ k.version
      → ((q : ℕ) → lookup (nat_eq q) fs ≡ cond (nat_eq i q) (Some (version, v)) (lookup (nat_eq q) es)) → IsSound fs
  IsSound-added es fs sound unique k v is key i version at named updates =
      IsSound-put es fs sound unique k v is key (pairs_put es fs i (version, v) updates ∙ (λ j. map.insert (pairs_of es) (at j) (named j, v)))

  -- with an index removed
  pub IsSound-taken : (es fs : Entries V) → IsSound es → IsDistinct nat_eq (keys_of fs) → (i : ℕ) → pairs_of fs ≡ map.remove (pairs_of es) i → IsSound fs
  IsSound-taken es fs sound unique i taken = record { unique = unique; keys = subst (λ (x : Pairs V). IsSecondary x) (sym taken) (IsSecondary-remove (pairs_of es) i sound.keys) }

  -- with another value at an index that is there
  IsSound-written : (es fs : Entries V) → IsSound es → IsDistinct nat_eq (keys_of fs) → (i : ℕ) (p q : ℕ × V) → map.get (pairs_of es) i ≡ Some p
      → q.0 ≡ p.0 → pairs_of fs ≡ map.insert (pairs_of es) i q → IsSound fs
  IsSound-written es fs sound unique i p q at same put = record {
    unique = unique;
    keys = rw put (λ j r h. elim (get_after_insert nat_cmp_total exact_unsigned (pairs_of es) i q j r h) [ inl e ↦ rw (e.0, e.1, same) (sound.keys i p at) | inr e ↦ sound.keys j r e.1 ]);
  }

  -- what a write through a reference to the value of a key leaves
  module _ {S : Type 0} (m n : HashMap ℕ (ℕ × V) S) (sound : IsSound m.entries) (k : Key) (i : ℕ) (at : i ≡ k.index) (p : ℕ × V) (w : V)
      (stood : lookup (nat_eq i) m.entries ≡ Some p) (written : WritesThrough nat_eq (nat_eq i) m (p.0, w) n) where
    put_there : pairs_of n.entries ≡ map.insert (pairs_of m.entries) i (p.0, w)
    put_there = pairs_put m.entries n.entries i (p.0, w) (written.3 (ap is_some stood)).0

    pub IsSound-through : IsSound n.entries
    IsSound-through = IsSound-written m.entries n.entries sound written.4 i p (p.0, w) (get-pairs m.entries i ∙ stood) refl put_there

    pub content-through : (c : SparseContent V) → content_of m ≡ c → contains_key c.pairs k ≡ true → content_of n ≡ sparse_with_value c k w
    content-through c is stands = grind (arith, stands_at, same_version, put_there)

  -- what a reference leaves if nothing was written through it
  module _ {S : Type 0} (m n : HashMap ℕ (ℕ × V) S) (sound : IsSound m.entries) (i : ℕ) (p : ℕ × V) (stood : lookup (nat_eq i) m.entries ≡ Some p)
      (written : WritesThrough nat_eq (nat_eq i) m p n) where
    pairs_kept : pairs_of n.entries ≡ pairs_of m.entries
    pairs_kept = pairs_put m.entries n.entries i p (written.3 (ap is_some stood)).0 ∙ insert_same nat_cmp_total exact_unsigned (pairs_of m.entries) i p (get-pairs m.entries i ∙ stood)

    pub IsSound-kept : IsSound n.entries
    IsSound-kept = IsSound-same m.entries n.entries sound written.4 pairs_kept

    pub content_kept : content_of n ≡ content_of m
    content_kept = let memory : hash_map_len n + spare n ≡ hash_map_len m + spare m = λ j. written.2 j + written.6 j in λ j. record { pairs = pairs_kept j; capacity = memory j }

  -- what a put over the pair at the index of a key leaves
  module _ {S : Type 0} (m n : HashMap ℕ (ℕ × V) S) (sound : IsSound m.entries) (c : SparseContent V) (is : content_of m ≡ c) (k : Key) (key : IsKey k)
      (i : ℕ) (at : i ≡ k.index) (p : ℕ × V) (v : V) (stood : lookup (nat_eq i) m.entries ≡ Some p)
      (written : WritesThrough nat_eq (nat_eq i) m (put_over k.version v p) n) where
    stands : map.get c.pairs k.index ≡ Some p
    stands = stands_at m c is k i at (Some p) stood

    valid : IsSecondary c.pairs
    valid = valid_pairs m.entries c.pairs (ap (λ (x : SparseContent V). x.pairs) is) sound

    other : is_null k ≡ false
    other = not_null_at c.pairs k p stands valid

    pairs_over : pairs_of n.entries ≡ put c.pairs k v
    pairs_over =
        pairs_put m.entries n.entries i (put_over k.version v p) (written.3 (ap is_some stood)).0
        ∙ (λ l. map.insert (is l).pairs (at l) (put_over k.version v p))
        ∙ put_at c.pairs k p stands v other

    pub IsSound-over : IsSound n.entries
    IsSound-over = record { unique = written.4; keys = subst (λ (x : Pairs V). IsSecondary x) (sym pairs_over) (IsSecondary-put c.pairs k v valid key) }

    pub content_over : content_of n ≡ record c { pairs = put c.pairs k v }
    content_over = grind (arith, pairs_over)

pub some_lent : {A : Type 0} (o : Option (MutBor A)) (p : Option A) → option_copied_mut o ≡ p → is_some p ≡ true → is_some o ≡ true
some_lent o p is h = grind arith

pub on_ok : {A E : Type 0} {P Q : Type 0} (r : Result A E) → OnOk r P → (P → Q) → OnOk r Q
on_ok r h f = grind arith

pub of_ok : {A E : Type 0} (P : Type 0) (r : Result A E) (x : A) → r ≡ Ok x → OnOk r P → P
of_ok P r x is holds = subst (λ s. OnOk s P) is holds
