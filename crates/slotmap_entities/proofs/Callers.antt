-- What callers of a world cite: loops over the positions of its keys, which change components or remove entities on their way,
-- and loops over its keys or a join.
use Rattle.std.proofs.Common.{◌≡◌, ◌≢◌, ◌⊎◌, ℕ, ◌+◌, ◌≤◌, swap_remove, ◌∷◌, slice_get, map as list_map, ◌∙◌, if◌then◌else◌, filter_map, option_and_then}
use Rattle.std.proofs.Common.{zero, suc, ◌-◌, ◌<◌, true, false, Some, List, Option, None, IfSome, IfNone, [], length, zip, get_or, inl, inr, refl, sym, ap, arith, Bool, All}
use Rattle.std.proofs.lemmas.List.Elements.{All-cons, All-head, All-tail, All-nil}
use Rattle.std.proofs.lemmas.Option.{slice_get-get_or, slice_get_within, slice_get-map}
use Rattle.std.proofs.lemmas.{Grind.common_steps, List.length-map}
use Rattle.std.proofs.lemmas.Slice.Zip.{length-zip}
use Rattle.std.specs.{List.cons_option, Option.option_map}
use Rattle.slotmap.specs.Words.{Key, key_cmp, ClosesGap, Dense, IsDense, IsLive}
use Rattle.slotmap_entities.specs.World.{World, found_by, both_found_by, three_found_by, found_without, optional_found_by}
use Rattle.slotmap.proofs.Callers.{keys_total, exact_keys, tied, alike_or_apart, get_after_remove, live-remove_other}
use Rattle.std.specs.FinMap as map

module _ {V : Type 0} where
  fewer : (es : List (Key × V)) → map.len (map.from_entries {R = key_cmp} es) ≤ length es
  fewer [] = omega (arith, map.len-empty key_cmp V)
  fewer (e ∷ es) = grind (arith, map.len-insert keys_total (map.from_entries es) e.0 e.1, fewer es)

  first_apart : (e : Key × V) (es : List (Key × V)) → length (e ∷ es) ≡ map.len (map.from_entries {R = key_cmp} (e ∷ es))
      → (map.contains_key (map.from_entries {R = key_cmp} es) e.0 ≡ false) × (length es ≡ map.len (map.from_entries {R = key_cmp} es))
  first_apart e es once = grind (arith, map.len-insert keys_total (map.from_entries es) e.0 e.1, fewer es)

  stands_in : (ks : List Key) (vs : List V) → length vs ≡ length ks → (i : ℕ) (k : Key) → slice_get ks i ≡ Some k
      → map.contains_key (map.from_entries {R = key_cmp} (zip ks vs)) k ≡ true
  stands_in [] vs same i k there = absurd (cc)
  stands_in (q ∷ ks) [] same i k there = absurd (omega (arith, same))
  stands_in (q ∷ ks) (v ∷ vs) same zero k there = grind (arith, map.get-insert keys_total (map.from_entries (zip ks vs)) q v k, tied keys_total exact_keys k q)
  stands_in (q ∷ ks) (v ∷ vs) same (suc i) k there =
      let rest = stands_in ks vs (omega (arith, same)) i k there in
      grind (arith, map.get-insert keys_total (map.from_entries (zip ks vs)) q v k)

  -- no key stands at two positions
  once_in : (ks : List Key) (vs : List V) → length vs ≡ length ks → length (zip ks vs) ≡ map.len (map.from_entries {R = key_cmp} (zip ks vs))
      → (i j : ℕ) (k : Key) → slice_get ks i ≡ Some k → slice_get ks j ≡ Some k → i ≡ j
  once_in [] vs same once i j k here there = absurd (cc)
  once_in (q ∷ ks) [] same once i j k here there = absurd (omega (arith, same))
  once_in (q ∷ ks) (v ∷ vs) same once zero zero k here there = refl
  once_in (q ∷ ks) (v ∷ vs) same once zero (suc j) k here there =
      absurd (let apart = (first_apart (q, v) (zip ks vs) once).0 in let rest = stands_in ks vs (omega (arith, same)) j k there in grind arith)
  once_in (q ∷ ks) (v ∷ vs) same once (suc i) zero k here there =
      absurd (let apart = (first_apart (q, v) (zip ks vs) once).0 in let rest = stands_in ks vs (omega (arith, same)) i k here in grind arith)
  once_in (q ∷ ks) (v ∷ vs) same once (suc i) (suc j) k here there =
      ap suc (once_in ks vs (omega (arith, same)) (first_apart (q, v) (zip ks vs) once).1 i j k here there)

  -- each key of the map stands at a position
  found_in : (ks : List Key) (vs : List V) → length vs ≡ length ks → (k : Key)
      → map.contains_key (map.from_entries {R = key_cmp} (zip ks vs)) k ≡ true
      → (i : ℕ) × (slice_get ks i ≡ Some k)
  found_in [] vs same k live = absurd (let none = map.get-empty {X = V} key_cmp k in cc)
  found_in (q ∷ ks) [] same k live = absurd (omega (arith, same))
  found_in (q ∷ ks) (v ∷ vs) same k live = elim (alike_or_apart keys_total exact_keys k q) [
    | inl is ↦ (0, ap Some (sym is))
    | inr other ↦
        let rest = found_in ks vs (omega (arith, same)) k
        (grind (arith, map.get-insert keys_total (map.from_entries (zip ks vs)) q v k, tied keys_total exact_keys k q)) in
        (suc rest.0, rest.1)
  ]

  module _ (d : Dense V) (valid : IsDense d) where
    key_count : length d.keys ≡ map.len d.content.live
    key_count = omega (arith, valid.listed.once, valid.same_length, length-zip d.keys d.values)

    -- the slice of the keys: how long it is, and the key at a position
    module _ {K : Type 0} (data_of : K → Key) (slice : List K) (is : list_map data_of slice ≡ d.keys) where
      pub slice_count : length slice ≡ map.len d.content.live
      slice_count = sym (length-map slice data_of) ∙ ap length is ∙ key_count

      key_at : (i : ℕ) (k : K) → i < map.len d.content.live → k ≡ get_or slice i k → slice_get d.keys i ≡ Some (data_of k)
      key_at i k within there =
          let at = slice_get-get_or slice i k (omega (arith, slice_count, within)) in
          rw (← is) (slice_get-map data_of slice i ∙ ap (option_map data_of) (at ∙ ap Some (sym there)))

    stands_once : (i j : ℕ) (k : Key) → slice_get d.keys i ≡ Some k → slice_get d.keys j ≡ Some k → i ≡ j
    stands_once = once_in d.keys d.values valid.same_length (valid.listed.once ∙ ap map.len (sym valid.listed.all))

    stands_live : (i : ℕ) (k : Key) → slice_get d.keys i ≡ Some k → IsLive d.content k
    stands_live i k found = rw (← valid.listed.all) (stands_in d.keys d.values valid.same_length i k found)

    stands_somewhere : (k : Key) → IsLive d.content k → (i : ℕ) × (slice_get d.keys i ≡ Some k)
    stands_somewhere k live = found_in d.keys d.values valid.same_length k (rw valid.listed.all live)

-- what `keys_as_slice` says of its slice
abbrev pub ListsKeys : {K V : Type 0} → (K → Key) → List K → Dense V → Type 0
ListsKeys data_of slice d = record { keys : list_map data_of slice ≡ d.keys; count : length slice ≡ map.len d.content.live; valid : IsDense d }

-- a loop over the positions of the keys is at one of them, and no entity came or went: `Change` says what became of each key before the position, where
-- `part` is what a world has of a key, and what it has of the others is as it was
pub record Passes {E T X : Type 0} (old now : World E T) (at : ℕ) (part : World E T → Key → X) (Change : Key → X → X → Type 0) : Type 0 where
  pub entities : now.entities ≡ old.entities
  pub changed : (i : ℕ) (k : Key) → i < at → slice_get old.entities.keys i ≡ Some k → Change k (part old k) (part now k)
  pub ahead : (k : Key) → ((i : ℕ) → i < at → slice_get old.entities.keys i ≢ Some k) → part now k ≡ part old k

module _ {E T X : Type 0} {part : World E T → Key → X} {Change : Key → X → X → Type 0} {old now : World E T} {at : ℕ}
    (passes : Passes old now at part Change) where
  module _ {K : Type 0} (data_of : K → Key) (slice : List K) (listed : ListsKeys data_of slice now.entities) (inside : at < map.len old.entities.content.live)
      (k : K) (here : k ≡ get_or slice at k) where
    stands : slice_get old.entities.keys at ≡ Some (data_of k)
    stands = rw (← passes.entities) (key_at now.entities listed.valid data_of slice listed.keys at k (rw passes.entities inside) here)

    once : (i : ℕ) → slice_get old.entities.keys i ≡ Some (data_of k) → i ≡ at
    once i found = stands_once old.entities (rw (← passes.entities) listed.valid) i at (data_of k) found stands

    -- a step that changes what the world has of the key at the position, and of no other
    pub pass_on : (new : World E T) → new.entities ≡ now.entities → Change (data_of k) (part now (data_of k)) (part new (data_of k))
        → ((q : Key) → q ≢ data_of k → part new q ≡ part now q) → Passes old new (at + 1) part Change
    pass_on new same change others = record {
      entities = same ∙ passes.entities;
      changed = λ i q less found. elim (alike_or_apart keys_total exact_keys q (data_of k)) [
        | inl is ↦ rw is changes
        | inr other ↦ rw (others q other) (passes.changed i q (before i q less found other) found)
      ];
      ahead = λ q none. others q (λ is. none at (omega arith) (stands ∙ ap Some (sym is))) ∙ passes.ahead q (λ i less. none i (omega (arith, less)));
    }
      where
        before : (i : ℕ) (q : Key) → i < at + 1 → slice_get old.entities.keys i ≡ Some q → q ≢ data_of k → i < at
        before i q less found other = let there = stands in grind arith

        as_it_was : part now (data_of k) ≡ part old (data_of k)
        as_it_was = passes.ahead (data_of k) (λ i less found. let same = once i found in omega (arith, less, same))

        changes : Change (data_of k) (part old (data_of k)) (part new (data_of k))
        changes = rw (← as_it_was) change

  -- after the loop this holds of each entity
  pub pass_end : IsDense old.entities → map.len old.entities.content.live ≤ at → (k : Key) → IsLive old.entities.content k → Change k (part old k) (part now k)
  pass_end valid all k live =
      let stands = stands_somewhere old.entities valid k live in
      passes.changed stands.0 k (omega (arith, all, key_count old.entities valid, slice_get_within old.entities.keys stands.0 k stands.1)) stands.1

module _ {X : Type 0} where
  before_gap : (xs : List X) (p i : ℕ) (d : X) → i < p → p < length xs → slice_get (swap_remove xs p d) i ≡ slice_get xs i
  before_gap xs p i d less inside = grind (arith, common_steps, slice_get-get_or xs i d, slice_get-get_or (swap_remove xs p d) i d)

  behind_gap : (xs : List X) (p i : ℕ) (d x : X) → p ≤ i → p < length xs → slice_get (swap_remove xs p d) i ≡ Some x → (j : ℕ)
      × (p < j) × (slice_get xs j ≡ Some x)
  behind_gap xs p i d x more inside found =
      let short : i < length xs - 1 = grind (arith, common_steps, slice_get_within (swap_remove xs p d) i x found) in
      let is = slice_get-get_or (swap_remove xs p d) i d (slice_get_within (swap_remove xs p d) i x found) in
      let place : (i ≡ p) ⊎ (p < i) = grind arith in
      elim place [
        | inl at ↦ (length xs - 1, omega arith, slice_get-get_or xs (length xs - 1) d (omega arith) ∙ grind (arith, common_steps))
        | inr behind ↦ (i, behind, slice_get-get_or xs i d (omega arith) ∙ grind (arith, common_steps))
      ]

-- once an entity was removed, the keys before its position stand where they stood, and each behind it stood behind it
module _ {V T P : Type 0} (old new : World V T) (valid : IsDense old.entities) (at : ℕ) (k : Key) (here : slice_get old.entities.keys at ≡ Some k) where
  module _ (removed : V × P) (closes : ClosesGap old.entities k removed.0 new.entities) where
    gap : closes.position ≡ at
    gap = stands_once old.entities valid closes.position at k closes.stood here

    within : closes.position < length old.entities.keys
    within = slice_get_within old.entities.keys closes.position k closes.stood

    gap_before : (i : ℕ) → i < at → slice_get new.entities.keys i ≡ slice_get old.entities.keys i
    gap_before i less = ap (λ ks. slice_get ks i) closes.keys ∙ before_gap old.entities.keys closes.position i k (omega (arith, gap, less)) within

    gap_behind : (i : ℕ) (q : Key) → at ≤ i → slice_get new.entities.keys i ≡ Some q → (j : ℕ) × (at < j) × (slice_get old.entities.keys j ≡ Some q)
    gap_behind i q more found = rw (← gap) (behind_gap old.entities.keys closes.position i k q (omega (arith, gap, more)) within (rw closes.keys at found))

  kept_before : (result : Option (V × P)) → IfSome result (λ removed. ClosesGap old.entities k removed.0 new.entities) → IfNone result (new ≡ old)
      → (i : ℕ) → i < at → slice_get new.entities.keys i ≡ slice_get old.entities.keys i
  kept_before None closes same i less = ap (λ (w : World V T). slice_get w.entities.keys i) same
  kept_before (Some removed) closes same i less = gap_before removed closes i less

  kept_behind : (result : Option (V × P)) → IfSome result (λ removed. ClosesGap old.entities k removed.0 new.entities) → IfNone result (new ≡ old)
      → new.entities.content.live ≡ map.remove old.entities.content.live k
      → (i : ℕ) (q : Key) → at ≤ i → slice_get new.entities.keys i ≡ Some q → (j : ℕ) × (at < j) × (slice_get old.entities.keys j ≡ Some q)
  kept_behind None closes same removed i q more found = absurd (live_removed same removed)
    where
      live_removed : new ≡ old → new.entities.content.live ≡ map.remove old.entities.content.live k → ⊥
      live_removed same removed = grind (
        arith,
        stands_live old.entities valid at k here,
        ap (λ (w : World V T). w.entities.content.live) same,
        get_after_remove keys_total exact_keys old.entities.content.live k k,
      )
  kept_behind (Some taken) closes same removed i q more found = gap_behind taken closes i q more found

-- the same of a loop that removes entities on its way: `Keeps` says what became of each key before the position, what the world has of the others is as
-- it was, and each entity that is gone was one that `Goes`
pub record Thins {E T X : Type 0} (old now : World E T) (at : ℕ) (part : World E T → Key → X) (Keeps : Key → X → X → Type 0)
    (Goes : Key → X → Type 0) : Type 0 where
  pub kept : (i : ℕ) (k : Key) → i < at → slice_get now.entities.keys i ≡ Some k → Keeps k (part old k) (part now k)
  pub ahead : (i : ℕ) (k : Key) → at ≤ i → slice_get now.entities.keys i ≡ Some k → part now k ≡ part old k
  pub still : (k : Key) → IsLive now.entities.content k → IsLive old.entities.content k
  pub gone : (k : Key) → IsLive old.entities.content k → IsLive now.entities.content k ⊎ Goes k (part old k)

module _ {E T X : Type 0} {part : World E T → Key → X} {Keeps : Key → X → X → Type 0} {Goes : Key → X → Type 0} {old now : World E T} {at : ℕ}
    (thins : Thins old now at part Keeps Goes) where
  module _ {K : Type 0} (data_of : K → Key) (slice : List K) (listed : ListsKeys data_of slice now.entities) (inside : at < length slice)
      (k : K) (here : k ≡ get_or slice at k) where
    its_place : slice_get now.entities.keys at ≡ Some (data_of k)
    its_place = key_at now.entities listed.valid data_of slice listed.keys at k (omega (arith, inside, listed.count)) here

    apart : (i : ℕ) (q : Key) → i ≢ at → slice_get now.entities.keys i ≡ Some q → q ≢ data_of k
    apart i q other found is = other (stands_once now.entities listed.valid i at (data_of k) (found ∙ ap Some is) its_place)

    unchanged_here : part now (data_of k) ≡ part old (data_of k)
    unchanged_here = thins.ahead at (data_of k) (omega arith) its_place

    -- a step that keeps the entity at the position, and changes what the world has of it alone
    pub thin_on : (new : World E T) → new.entities ≡ now.entities → Keeps (data_of k) (part now (data_of k)) (part new (data_of k))
        → ((q : Key) → q ≢ data_of k → part new q ≡ part now q) → Thins old new (at + 1) part Keeps Goes
    thin_on new same keeps others = record {
      kept = λ i q less found. elim (alike_or_apart keys_total exact_keys q (data_of k)) [
        | inl is ↦ rw is keeps_here
        | inr other ↦ rw (others q other) (thins.kept i q (before i q less (stood i q found) other) (stood i q found))
      ];
      ahead = λ i q more found. others q (apart i q (λ is. omega (arith, more, is)) (stood i q found))
          ∙ thins.ahead i q (omega (arith, more)) (stood i q found);
      still = λ q live. thins.still q (rw same at live);
      gone = λ q live. rw same (thins.gone q live);
    }
      where
        stood : (i : ℕ) (q : Key) → slice_get new.entities.keys i ≡ Some q → slice_get now.entities.keys i ≡ Some q
        stood i q found = rw same at found

        before : (i : ℕ) (q : Key) → i < at + 1 → slice_get now.entities.keys i ≡ Some q → q ≢ data_of k → i < at
        before i q less found other = let there = its_place in grind arith

        keeps_here : Keeps (data_of k) (part old (data_of k)) (part new (data_of k))
        keeps_here = rw (← unchanged_here) keeps

    -- a step that removes the entity at the position
    pub thin_out : (new : World E T) {P : Type 0} (result : Option (E × P))
        → IfSome result (λ removed. ClosesGap now.entities (data_of k) removed.0 new.entities)
        → IfNone result (new ≡ now) → new.entities.content.live ≡ map.remove now.entities.content.live (data_of k)
        → Goes (data_of k) (part now (data_of k)) → ((q : Key) → q ≢ data_of k → part new q ≡ part now q) → Thins old new at part Keeps Goes
    thin_out new {P} result closes same removed goes others = record {
      kept = λ i q less found. let was = sym (kept_before now new listed.valid at (data_of k) its_place result closes same i less) ∙ found in
          rw (others q (apart i q (λ is. omega (arith, less, is)) was)) (thins.kept i q less was);
      ahead = λ i q more found. let was = kept_behind now new listed.valid at (data_of k) its_place result closes same removed i q more found in
          others q (apart was.0 q (λ is. omega (arith, was.1, is)) was.2) ∙ thins.ahead was.0 q (omega (arith, was.1)) was.2;
      still = λ q live. thins.still q (was_in q (rw removed at live));
      gone = λ q live. elim (thins.gone q live) [
        | inl there ↦ elim (alike_or_apart keys_total exact_keys q (data_of k)) [
          | inl is ↦ inr (rw is goes_here)
          | inr other ↦ inl (rw removed (live-remove_other now.entities.content.live (data_of k) q other there))
        ]
        | inr went ↦ inr went
      ];
    }
      where
        goes_here : Goes (data_of k) (part old (data_of k))
        goes_here = rw (← unchanged_here) goes

        was_in : (q : Key) → map.contains_key (map.remove now.entities.content.live (data_of k)) q ≡ true → IsLive now.entities.content q
        was_in q live = grind (arith, get_after_remove keys_total exact_keys now.entities.content.live (data_of k) q)

  -- after the loop each entity that is there was kept, and each other one was one to go
  pub thin_end : IsDense now.entities → map.len now.entities.content.live ≤ at → (k : Key) → IsLive now.entities.content k → Keeps k (part old k) (part now k)
  thin_end valid all k live =
      let stands = stands_somewhere now.entities valid k live in
      thins.kept stands.0 k (omega (arith, all, key_count now.entities valid, slice_get_within now.entities.keys stands.0 k stands.1)) stands.1

  pub thin_all : IsDense now.entities → map.len now.entities.content.live ≤ at → (k : Key) → IsLive old.entities.content k
      → (IsLive now.entities.content k × Keeps k (part old k) (part now k)) ⊎ Goes k (part old k)
  thin_all valid all k live = elim (thins.gone k live) [
    | inl still ↦ inl (still, thin_end valid all k still)
    | inr went ↦ inr went
  ]

all_of : {X : Type 0} (P : X → Type 0) (xs : List X) → ((i : ℕ) (x : X) → slice_get xs i ≡ Some x → P x) → All P xs
all_of P [] each = All-nil P
all_of P (x ∷ xs) each = All-cons P x xs (each 0 x refl) (all_of P xs (λ i y found. each (suc i) y found))

-- what is found for a key stands beside it
module _ {Y : Type 0} (k : Key) where
  abbrev IsBy : Option (Key × Y) → Type 0
  IsBy found = IfSome found (λ e. e.0 ≡ k)

  by_map : {X : Type 0} (o : Option X) (make : X → Key × Y) → ((x : X) → (make x).0 ≡ k) → IsBy (option_map make o)
  by_map None make is = tt
  by_map (Some x) make is = is x

  by_more : {X : Type 0} (o : Option X) (more : X → Option (Key × Y)) → ((x : X) → IsBy (more x)) → IsBy (option_and_then more o)
  by_more None more is = tt
  by_more (Some x) more is = is x

  by_test : (b : Bool) (found : Option (Key × Y)) → IsBy found → IsBy (if b then None else found)
  by_test true found is = tt
  by_test false found is = is

module _ {Y : Type 0} (P : Key → Type 0) (find : Key → Option (Key × Y)) (by : (k : Key) → IfSome (find k) (λ e. e.0 ≡ k)) where
  one_found : (k : Key) (es : List (Key × Y)) → P k → All (λ e. P e.0) es → (found : Option (Key × Y)) → IfSome found (λ e. e.0 ≡ k)
      → All (λ e. P e.0) (cons_option found es)
  one_found k es here rest None is = rest
  one_found k es here rest (Some e) is = All-cons (λ e. P e.0) e es (rw is here) rest

  all_found : (ks : List Key) → All P ks → All (λ e. P e.0) (filter_map find ks)
  all_found [] all = All-nil (λ e. P e.0)
  all_found (k ∷ ks) all = one_found k (filter_map find ks) (All-head P k ks all) (all_found ks (All-tail P k ks all)) (find k) (by k)

-- each key that a loop over the keys, or over a join, is handed is that of an entity
module _ {V : Type 0} (d : Dense V) (valid : IsDense d) where
  pub keys_live : All (IsLive d.content) d.keys
  keys_live = all_of (IsLive d.content) d.keys (stands_live d valid)

  pub found_live : {C : Type 0} (find : Key → Option C) → All (λ e. IsLive d.content e.0) (found_by find d.keys)
  found_live find = all_found (IsLive d.content) (λ k. option_map (λ c. (k, c)) (find k)) (λ k. by_map k (find k) (λ c. (k, c)) (λ c. refl)) d.keys keys_live

  pub both_found_live : {A B : Type 0} (a : Key → Option A) (b : Key → Option B) → All (λ e. IsLive d.content e.0) (both_found_by a b d.keys)
  both_found_live a b = all_found (IsLive d.content) (λ k. option_and_then (λ x. option_map (λ y. (k, (x, y))) (b k)) (a k))
      (λ k. by_more k (a k) (λ x. option_map (λ y. (k, (x, y))) (b k)) (λ x. by_map k (b k) (λ y. (k, (x, y))) (λ y. refl))) d.keys keys_live

  pub three_found_live : {A B C : Type 0} (a : Key → Option A) (b : Key → Option B) (c : Key → Option C)
      → All (λ e. IsLive d.content e.0) (three_found_by a b c d.keys)
  three_found_live a b c = all_found (IsLive d.content)
      (λ k. option_and_then (λ x. option_and_then (λ y. option_map (λ z. (k, (x, (y, z)))) (c k)) (b k)) (a k))
      (λ k. by_more k (a k) (λ x. option_and_then (λ y. option_map (λ z. (k, (x, (y, z)))) (c k)) (b k))
      (λ x. by_more k (b k) (λ y. option_map (λ z. (k, (x, (y, z)))) (c k)) (λ y. by_map k (c k) (λ z. (k, (x, (y, z)))) (λ z. refl))))
      d.keys keys_live

  pub found_without_live : {C : Type 0} (has : Key → Bool) (find : Key → Option C) → All (λ e. IsLive d.content e.0) (found_without has find d.keys)
  found_without_live has find = all_found (IsLive d.content) (λ k. if has k then None else option_map (λ c. (k, c)) (find k))
      (λ k. by_test k (has k) (option_map (λ c. (k, c)) (find k)) (by_map k (find k) (λ c. (k, c)) (λ c. refl))) d.keys keys_live

  pub optional_found_live : {A B : Type 0} (a : Key → Option A) (b : Key → Option B) → All (λ e. IsLive d.content e.0) (optional_found_by a b d.keys)
  optional_found_live a b = all_found (IsLive d.content) (λ k. option_map (λ x. (k, (x, b k))) (a k))
      (λ k. by_map k (a k) (λ x. (k, (x, b k))) (λ x. refl)) d.keys keys_live
