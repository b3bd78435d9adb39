-- The entries of a finite map, in the order of their keys.
use Rattle.std.proofs.Common.{◌∷◌, ◌≡◌}
use Rattle.slotmap_scheduler.proofs.Common.{IsInverse, AllByRecursion, AllZip, CmpEqualImpliesEq, IsCloneOf, IsTotalOrder, List, None, Option, Ordering, Some, T, [], ap, arith, below_all, false, find}
use Rattle.slotmap_scheduler.proofs.Common.{is_lt, is_sorted, itself, put, refl, tied, ◌∙◌}
use Rattle.std.specs.FinMap as map

-- options with the same values
pub same_option : {A : Type 0} (a b : Option A) → ((x : A) → a ≡ Some x → b ≡ Some x) → ((x : A) → b ≡ Some x → a ≡ Some x) → a ≡ b
same_option a b to from = grind arith

pub none_there : {A : Type 0} (o : Option A) → ((x : A) → o ≡ Some x → ⊥) → o ≡ None
none_there o not_some = grind arith

module _ {K X : Type 0} {R : K → K → Ordering} (total : IsTotalOrder R) (exact : CmpEqualImpliesEq R) where
  -- what is not behind a key isn't found where all are
  pub not_behind : (k q : K) (es : List (K × X)) → T (below_all R k es) → is_lt (R k q) ≡ false → find R q es ≡ None
  not_behind k q [] below not_less = refl
  not_behind k q (e ∷ es) below not_less = grind (arith, not_behind k q es, tied total exact q e.0)

  -- what holds of each entry that is found holds of all
  pub all_of : (P : K → X → Type 0) (m : map.FinMap R X) → ((k : K) (v : X) → map.get m k ≡ Some v → P k v) → AllByRecursion (λ (e : K × X). P e.0 e.1) (map.entries m)
  all_of P m found = by (map.entries m) (map.entries_sorted m) (λ q v there. found q v (map.get-entries m q ∙ there))
    where
      by : (es : List (K × X)) → T (is_sorted R es) → ((q : K) (v : X) → find R q es ≡ Some v → P q v) → AllByRecursion (λ (e : K × X). P e.0 e.1) es
      by [] sorted found = tt
      by (e ∷ es) sorted found = (
        found e.0 e.1 (grind (arith, itself total exact e.0)),
        by es (grind arith) (λ q v there. found q v (grind (arith, tied total exact q e.0, not_behind e.0 e.0 es, itself total exact e.0))),
      )

  module _ (m : map.FinMap R X) (k : K) where
    -- an entry is put among the others
    pub entries_put : (v : X) → map.entries (map.insert m k v) ≡ put R k v (map.entries (map.remove m k))
    entries_put v = ap map.entries (map.same_map total exact (map.insert m k v) (map.insert (map.remove m k) k v) (λ q.
        grind (arith, map.get-insert total m k v q, map.get-insert total (map.remove m k) k v q, map.get-remove total m k q))) ∙ map.entries-insert total (map.remove m k) k v

    pub insert_same : (v : X) → map.get m k ≡ Some v → map.insert m k v ≡ m
    insert_same v there = map.same_map total exact (map.insert m k v) m (λ q. grind (arith, map.get-insert total m k v q, tied total exact q k))

  -- maps with the same keys, where Q holds of the two values of each: so their entries are alike, one by one
  module _ (Q : X → X → Type 0) where
    zipped : (es fs : List (K × X)) → T (is_sorted R es) → T (is_sorted R fs) → ((q : K) → IsCloneOf Q (find R q es) (find R q fs))
        → AllZip (λ (e f : K × X). (f.0 ≡ e.0) × Q e.1 f.1) es fs
    zipped [] [] g h are = tt
    zipped [] (f ∷ fs) g h are = absurd (let is = are f.0 in let i = itself total exact f.0 in grind arith)
    zipped (e ∷ es) [] g h are = absurd (let is = are e.0 in let i = itself total exact e.0 in grind arith)
    zipped (e ∷ es) (f ∷ fs) g h are =
        let i = itself total exact e.0 in let j = itself total exact f.0 in
        let of_e = are e.0 in let of_f = are f.0 in
        let same : f.0 ≡ e.0 = grind (arith, not_behind e.0 f.0 es, not_behind f.0 e.0 fs, total.antisymm e.0 f.0, tied total exact e.0 f.0, tied total exact f.0 e.0) in
        let here : Q e.1 f.1 = grind arith in
        ((same, here), zipped es fs (grind arith) (grind arith) (λ q. (let is = are q in grind (arith, not_behind e.0 q es, not_behind f.0 q fs, tied total exact q e.0))))

    pub entries_alike : (m n : map.FinMap R X) → ((q : K) → IsCloneOf Q (map.get m q) (map.get n q)) → AllZip (λ (e f : K × X). (f.0 ≡ e.0) × Q e.1 f.1) (map.entries m) (map.entries n)
    entries_alike m n alike = zipped (map.entries m) (map.entries n) (map.entries_sorted m) (map.entries_sorted n) (λ q. rw (← map.get-entries m q, ← map.get-entries n q) (alike q))

-- two maps, each of which finds by its values the keys of the other
module _ {K L X : Type 0} {R : K → K → Ordering} {S : L → L → Ordering} (total : IsTotalOrder R) (exact : CmpEqualImpliesEq R) (total' : IsTotalOrder S) (exact' : CmpEqualImpliesEq S)
    (m : map.FinMap R (L × X)) (n : map.FinMap S (K × X)) (is : IsInverse (map.get m) (map.get n)) (k : K) (l : L) (x : X) where
  -- k and l have each other now, which no others had
  pub inverse_put : ((q : K) (y : X) → map.get m q ≡ Some (l, y) → q ≡ k) → ((p : L) (y : X) → map.get n p ≡ Some (k, y) → p ≡ l)
      → IsInverse (map.get (map.insert m k (l, x))) (map.get (map.insert n l (k, x)))
  inverse_put only_k only_l =
      grind (arith, map.get-insert total m k (l, x), map.get-insert total' n l (k, x), tied total exact, itself total exact, tied total' exact', itself total' exact', only_k, only_l, is)

  -- k has nothing any more, and nor has l
  pub inverse_removed : map.get m k ≡ Some (l, x) → IsInverse (map.get (map.remove m k)) (map.get (map.remove n l))
  inverse_removed was = grind (arith, map.get-remove total m k, map.get-remove total' n l, tied total exact, itself total exact, tied total' exact', itself total' exact', is, was)
