-- Three vectors as one list of slots.
use Rattle.std.proofs.Common.{◌≡◌, ◌<◌, ◌%◌, ◌∷◌, ◌++◌, ◌↔◌, IsTrue, ℕ, zero, suc, List, [], length, set, slice_get, get_or, Option, Some, IsSome, refl, sym, ap, Bool}
use Rattle.slotmap_core.proofs.Common.{option_and_then, subst, ◌∙◌, arith, get_or_default_zero, slice_get_read, same_Some}
use Rattle.slotmap_slots.specs.Slot.{SlotList, version_at, usage_at, next_at, next_of, payload_at, with_payload}
use Rattle.slotmap_slots.specs.declared.layout.Use.{Use}
use Rattle.slotmap_slots.specs.declared.layout.Use.TheVariants.{InUse, Detached}
use Rattle.slotmap_slots.specs.Numbers.{use_of}
use Rattle.slotmap_basic.specs.Columns.{zip_slots, IsColumns, versions_of, uses_of}
use Rattle.slotmap_basic.proofs.NumberLemmas.{free_is, uses-length, uses-at, uses-set, uses-put, uses-push}

module _ {P : Type 0} where
  pub zip-length : (vs : List ℕ) (ls : List Use) (xs : List (Option P)) → length ls ≡ length vs → length xs ≡ length vs → length (zip_slots vs ls xs) ≡ length vs
  zip-length [] ls xs same_l same_x = refl
  zip-length (v ∷ vs) (l ∷ ls) (x ∷ xs) same_l same_x = omega (arith, zip-length vs ls xs (omega arith) (omega arith))
  zip-length (v ∷ vs) ls xs same_l same_x = absurd (omega arith)

  pub zip-at : (vs : List ℕ) (ls : List Use) (xs : List (Option P)) (i v : ℕ) (l : Use) (x : Option P) → slice_get vs i ≡ Some v
      → slice_get ls i ≡ Some l → slice_get xs i ≡ Some x → slice_get (zip_slots vs ls xs) i ≡ Some (record { version = v; usage = l; payload = x })
  zip-at (w ∷ vs) (m ∷ ls) (y ∷ xs) zero v l x at_v at_l at_x = cc
  zip-at (w ∷ vs) (m ∷ ls) (y ∷ xs) (suc i) v l x at_v at_l at_x = zip-at vs ls xs i v l x at_v at_l at_x
  zip-at vs ls xs i v l x at_v at_l at_x = absurd (cc)

  zip-reads : (vs : List ℕ) (ls : List Use) (xs : List (Option P)) (i : ℕ) → length ls ≡ length vs → length xs ≡ length vs
      → (version_at (zip_slots vs ls xs) i ≡ slice_get vs i) × (usage_at (zip_slots vs ls xs) i ≡ slice_get ls i)
      × (payload_at (zip_slots vs ls xs) i ≡ option_and_then (λ x. x) (slice_get xs i))
  zip-reads [] [] [] i same_l same_x = (refl, refl, refl)
  zip-reads (v ∷ vs) (l ∷ ls) (x ∷ xs) zero same_l same_x = (refl, refl, refl)
  zip-reads (v ∷ vs) (l ∷ ls) (x ∷ xs) (suc i) same_l same_x = zip-reads vs ls xs i (omega arith) (omega arith)
  zip-reads vs ls xs i same_l same_x = absurd (omega arith)

  zip-versions : (vs : List ℕ) (ls : List Use) (xs : List (Option P)) → length ls ≡ length vs → length xs ≡ length vs → versions_of (zip_slots vs ls xs) ≡ vs
  zip-versions [] ls xs same_l same_x = refl
  zip-versions (v ∷ vs) (l ∷ ls) (x ∷ xs) same_l same_x = ap (λ ws. v ∷ ws) (zip-versions vs ls xs (omega arith) (omega arith))
  zip-versions (v ∷ vs) ls xs same_l same_x = absurd (omega arith)

  zip-within : (vs : List ℕ) (ls : List Use) (xs : List (Option P)) (i : ℕ) → IsSome (payload_at (zip_slots vs ls xs) i) → i < length vs
  zip-within (v ∷ vs) (l ∷ ls) (x ∷ xs) zero some = omega arith
  zip-within (v ∷ vs) (l ∷ ls) (x ∷ xs) (suc i) some = omega (arith, zip-within vs ls xs i some)
  zip-within vs ls xs i some = absurd (cc)

  zip-within_free : (vs : List ℕ) (ls : List Use) (xs : List (Option P)) (i : ℕ) → IsSome (next_at (zip_slots vs ls xs) i) → i < length vs
  zip-within_free (v ∷ vs) (l ∷ ls) (x ∷ xs) zero some = omega arith
  zip-within_free (v ∷ vs) (l ∷ ls) (x ∷ xs) (suc i) some = omega (arith, zip-within_free vs ls xs i some)
  zip-within_free vs ls xs i some = absurd (cc)

  zip-next : (vs : List ℕ) (ls : List Use) (xs : List (Option P)) (i : ℕ) → length ls ≡ length vs → length xs ≡ length vs
      → next_at (zip_slots vs ls xs) i ≡ option_and_then next_of (slice_get ls i)
  zip-next [] [] [] i same_l same_x = refl
  zip-next (v ∷ vs) (l ∷ ls) (x ∷ xs) zero same_l same_x = refl
  zip-next (v ∷ vs) (l ∷ ls) (x ∷ xs) (suc i) same_l same_x = zip-next vs ls xs i (omega arith) (omega arith)
  zip-next vs ls xs i same_l same_x = absurd (omega arith)

  zip-usage : (vs : List ℕ) (ls : List Use) (xs : List (Option P)) (i : ℕ) → length ls ≡ length vs → length xs ≡ length vs → usage_at (zip_slots vs ls xs) i ≡ slice_get ls i
  zip-usage vs ls xs i same_l same_x = (zip-reads vs ls xs i same_l same_x).1

  -- What each read of the vectors says of their slots
  zip-known : (vs : List ℕ) (ls : List Use) (xs : List (Option P)) → length ls ≡ length vs → length xs ≡ length vs
      → (zip_slots vs ls xs ≡ zip_slots vs ls xs) × (length (zip_slots vs ls xs) ≡ length vs)
      × ((i : ℕ) → version_at (zip_slots vs ls xs) i ≡ slice_get vs i)
      × ((i v : ℕ) → i < length vs → v ≡ get_or vs i v → version_at (zip_slots vs ls xs) i ≡ Some v)
      × ((i : ℕ) (o : Option P) → i < length vs → o ≡ get_or xs i o → payload_at (zip_slots vs ls xs) i ≡ o)
      × ((i : ℕ) → IsSome (payload_at (zip_slots vs ls xs) i) → i < length vs)
      × ((i : ℕ) → IsSome (next_at (zip_slots vs ls xs) i) → i < length vs)
  zip-known vs ls xs same_l same_x = (
    refl,
    zip-length vs ls xs same_l same_x,
    λ i. (zip-reads vs ls xs i same_l same_x).0,
    λ i v within read. (zip-reads vs ls xs i same_l same_x).0 ∙ slice_get_read vs _ i v refl within read,
    λ i o within read. (zip-reads vs ls xs i same_l same_x).2 ∙ ap (option_and_then (λ x. x)) (slice_get_read xs _ i o refl (omega arith) read),
    zip-within vs ls xs,
    zip-within_free vs ls xs,
  )

  pub zip-set : (vs : List ℕ) (ls : List Use) (xs : List (Option P)) (i v : ℕ) (l : Use) (x : Option P)
      → zip_slots (set vs i v) (set ls i l) (set xs i x) ≡ set (zip_slots vs ls xs) i (record { version = v; usage = l; payload = x })
  zip-set (w ∷ vs) [] xs zero v l x = refl
  zip-set (w ∷ vs) (m ∷ ls) [] zero v l x = refl
  zip-set (w ∷ vs) (m ∷ ls) (y ∷ xs) (suc i) v l x = ap (λ ss. record { version = w; usage = m; payload = y } ∷ ss) (zip-set vs ls xs i v l x)
  zip-set vs ls xs i v l x = refl

  pub zip-push : (vs : List ℕ) (ls : List Use) (xs : List (Option P)) (v : ℕ) (l : Use) (x : Option P) → length ls ≡ length vs
      → length xs ≡ length vs → zip_slots (vs ++ v ∷ []) (ls ++ l ∷ []) (xs ++ x ∷ []) ≡ zip_slots vs ls xs ++ record
      { version = v; usage = l; payload = x } ∷ []
  zip-push [] [] [] v l x same_l same_x = refl
  zip-push (w ∷ vs) (m ∷ ls) (y ∷ xs) v l x same_l same_x = ap (λ ss. record { version = w; usage = m; payload = y } ∷ ss) (zip-push vs ls xs v l x (omega arith) (omega arith))
  zip-push vs ls xs v l x same_l same_x = absurd (omega arith)

  pub zip-with_payload : (vs : List ℕ) (ls : List Use) (xs : List (Option P)) (i : ℕ) (p : P) → zip_slots vs ls (set xs i (Some p)) ≡ with_payload (zip_slots vs ls xs) i p
  zip-with_payload (v ∷ vs) (l ∷ ls) (x ∷ xs) (suc i) p = ap (λ ss. record { version = v; usage = l; payload = x } ∷ ss) (zip-with_payload vs ls xs i p)
  zip-with_payload vs ls xs i p = refl

-- the same for vectors that hold slots, by what they hold
pub slot_list-length : {P : Type 0} {vs ns : List ℕ} {xs : List (Option P)} {n a b d : ℕ} → IsColumns vs ns xs n a b d → {l : SlotList P}
    → record { slots = zip_slots vs (uses_of vs ns) xs; capacity = n } ≡ l → (length l.slots ≡ length vs) × (l.capacity ≡ n)
slot_list-length {P} {vs} {ns} {xs} columns view = grind (arith, zip-length, uses-length)

pub slot_list-versions : {P : Type 0} {vs ns : List ℕ} {xs : List (Option P)} {n a b d : ℕ} → IsColumns vs ns xs n a b d → {l : SlotList P}
    → record { slots = zip_slots vs (uses_of vs ns) xs; capacity = n } ≡ l → versions_of l.slots ≡ vs
slot_list-versions {P} {vs} {ns} {xs} columns view = ap (λ l. versions_of l.slots) (sym view) ∙ zip-versions vs (uses_of vs ns) xs (uses-length vs ns columns.numbers_length) columns.payloads_length

-- what the tactics need of three vectors of one length, whose uses are numbers
pub slot_list-known : {P : Type 0} (vs ns : List ℕ) (xs : List (Option P)) → length ns ≡ length vs → length xs ≡ length vs
    → (zip_slots vs (uses_of vs ns) xs ≡ zip_slots vs (uses_of vs ns) xs) × (length (zip_slots vs (uses_of vs ns) xs) ≡ length vs)
    × ((i : ℕ) → version_at (zip_slots vs (uses_of vs ns) xs) i ≡ slice_get vs i)
    × ((i v : ℕ) → i < length vs → v ≡ get_or vs i v → version_at (zip_slots vs (uses_of vs ns) xs) i ≡ Some v)
    × ((i v n : ℕ) → i < length vs → v ≡ get_or vs i v → n ≡ get_or ns i n → usage_at (zip_slots vs (uses_of vs ns) xs) i ≡ Some (use_of v n))
    × ((i : ℕ) (o : Option P) → i < length vs → o ≡ get_or xs i o → payload_at (zip_slots vs (uses_of vs ns) xs) i ≡ o)
    × ((i : ℕ) → IsSome (payload_at (zip_slots vs (uses_of vs ns) xs) i) → i < length vs)
    × ((i : ℕ) → IsSome (next_at (zip_slots vs (uses_of vs ns) xs) i) → i < length vs)
    × ((i n : ℕ) → n ≡ get_or ns i n → IsSome (next_at (zip_slots vs (uses_of vs ns) xs) i) → next_at (zip_slots vs (uses_of vs ns) xs) i ≡ Some n)
slot_list-known vs ns xs same_n same_x =
    let ls = uses_of vs ns in
    let same_l = uses-length vs ns same_n in
    let known = zip-known vs ls xs same_l same_x in
    let at : (i v n : ℕ) → i < length vs → v ≡ get_or vs i v → n ≡ get_or ns i n → slice_get ls i ≡ Some (use_of v n) =
    λ i v n within read_v read_n. uses-at vs ns i v n (slice_get_read vs _ i v refl within read_v) (slice_get_read ns _ i n refl (omega arith) read_n) in (
      refl,
      known.1,
      known.2,
      known.3,
      λ i v n within read_v read_n. zip-usage vs ls xs i same_l same_x ∙ at i v n within read_v read_n,
      known.4,
      known.5,
      known.6,
      λ i n read some.
          let within = known.6 i some in
          let v = get_or vs i 0 in
          let next = zip-next vs ls xs i same_l same_x ∙ ap (option_and_then next_of) (at i v n within (sym (get_or_default_zero vs i v within)) read) in
          next ∙ free_is v n (subst IsSome next some),
    )

-- what the number at an even version tells
pub detached_at : {P : Type 0} (vs ns : List ℕ) (xs : List (Option P)) → length ns ≡ length vs → length xs ≡ length vs → (i n : ℕ) (r : Bool)
    → i < length vs → n ≡ get_or ns i n → ((v : ℕ) → version_at (zip_slots vs (uses_of vs ns) xs) i ≡ Some v → v % 2 ≡ 0)
    → ((v : ℕ) → v % 2 ≡ 0 → IsTrue r ↔ use_of v n ≡ Detached) → IsTrue r ↔ usage_at (zip_slots vs (uses_of vs ns) xs) i ≡ Some Detached
detached_at vs ns xs same_n same_x i n r within read even marks =
    let known = slot_list-known vs ns xs same_n same_x in
    let v = get_or vs i 0 in
    let read_v = sym (get_or_default_zero vs i v within) in
    let used = known.4 i v n within read_v read in
    let is = marks v (even v (known.3 i v within read_v)) in
    (λ t. used ∙ ap Some (is.0 t), λ there. is.1 (same_Some _ _ (sym used ∙ there)))

-- one more slot, and one that is put to use
module _ {P : Type 0} (vs ns : List ℕ) (xs : List (Option P)) where
  pub slot_list-push : (v n : ℕ) (l : Use) (x : Option P) → length ns ≡ length vs → length xs ≡ length vs → use_of v n ≡ l
      → zip_slots (vs ++ v ∷ []) (uses_of (vs ++ v ∷ []) (ns ++ n ∷ [])) (xs ++ x ∷ []) ≡ zip_slots vs (uses_of vs ns) xs ++ record { version = v; usage = l; payload = x } ∷ []
  slot_list-push v n l x same_n same_x is = grind (arith, uses-push, zip-push, uses-length)

  pub slot_list-put : (i v : ℕ) (x : Option P) → v % 2 ≡ 1
      → zip_slots (set vs i v) (uses_of (set vs i v) ns) (set xs i x) ≡ set (zip_slots vs (uses_of vs ns) xs) i
      (record { version = v; usage = InUse; payload = x })
  slot_list-put i v x odd = ap (λ ls. zip_slots (set vs i v) ls (set xs i x)) (uses-put vs ns i v odd) ∙ zip-set vs (uses_of vs ns) xs i v InUse x

pub ruleset slot_list = (slot_list-known, uses-set, uses-push, zip-set, zip-push)
