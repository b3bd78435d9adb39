-- What calls for each key of a map, by ascending index, leave of it, if no two of its keys have one index.
-- For the crates of maps.
use Rattle.std.proofs.Common.{◌≡◌, ℕ, ◌+◌, ◌<◌, ◌≤◌, Bool, true, false, cond, List, [], ◌∷◌, ◌++◌, Some, is_some, refl, sym, ap, subst, ◌∙◌, arith}
use Rattle.slotmap_core.specs.Words.{Mut, MutBor, FoldsTo, Key, key_cmp, Visit, CallsAt, MayCome}
use Rattle.slotmap_core.proofs.Contents.IndexLemmas.{from_index, get_from, from_index-start, from_index-skip, from_index-jump, from_index-take, from_index-end, none_live, in_from}
use Rattle.slotmap_core.proofs.Several.VisitLemmas.{Visits, Visits-start, Visits-call, unvisited}
use Rattle.std.specs.FinMap as map

module _ {K V : Type 0} (data_of : K → Key) (old : map.FinMap key_cmp V) where
  pub Keyed-from_start : Visits data_of old [] (from_index 0 old) old
  Keyed-from_start = subst (λ rest. Visits data_of old [] rest old) (sym (from_index-start old)) (Visits-start data_of old)

  -- at an index with a key, for which the closure is called
  pub Keyed-at : ((k q : Key) → map.contains_key old k ≡ true → map.contains_key old q ≡ true → q.index ≡ k.index → q ≡ k)
      → (xs : List (Visit K V)) (i : ℕ) (now : map.FinMap key_cmp V) (x : Visit K V) → Visits data_of old xs (from_index i old) now
      → (data_of x.key).index ≡ i → map.get now (data_of x.key) ≡ Some x.before
      → Visits data_of old (xs ++ x ∷ []) (from_index (i + 1) old) (cond x.stays (map.insert now (data_of x.key) x.after) (map.remove now (data_of x.key)))
  Keyed-at alone xs i now x visits at found = grind (arith, get_from, unvisited, from_index-take, Visits-call data_of old xs (from_index i old) now x visits)

  -- at an index with no key
  pub Keyed-past : (xs : List (Visit K V)) (i : ℕ) (now : map.FinMap key_cmp V) → Visits data_of old xs (from_index i old) now
      → ((q : Key) → q.index ≡ i → map.contains_key now q ≡ false) → Visits data_of old xs (from_index (i + 1) old) now
  Keyed-past xs i now visits none = grind (arith, from_index-skip, unvisited data_of old xs (from_index i old) now, get_from)

  -- up to the next index with a key
  Keyed-jump : (xs : List (Visit K V)) (i j : ℕ) (now : map.FinMap key_cmp V) → Visits data_of old xs (from_index i old) now → i ≤ j
      → ((q : Key) → map.contains_key now q ≡ true → i ≤ q.index → j ≤ q.index) → Visits data_of old xs (from_index j old) now
  Keyed-jump xs i j now visits on none = grind (arith, from_index-jump, unvisited, from_index, get_from)

  -- at the next key, for which the closure is called
  pub Keyed-next : ((k q : Key) → map.contains_key old k ≡ true → map.contains_key old q ≡ true → q.index ≡ k.index → q ≡ k)
      → (xs : List (Visit K V)) (i : ℕ) (now : map.FinMap key_cmp V) (x : Visit K V) → Visits data_of old xs (from_index i old) now
      → i ≤ (data_of x.key).index → ((q : Key) → map.contains_key now q ≡ true → i ≤ q.index → (data_of x.key).index ≤ q.index)
      → map.get now (data_of x.key) ≡ Some x.before
      → Visits data_of old (xs ++ x ∷ []) (from_index ((data_of x.key).index + 1) old) (cond x.stays (map.insert now (data_of x.key) x.after) (map.remove now (data_of x.key)))
  Keyed-next alone xs i now x visits on next found = Keyed-at alone xs (data_of x.key).index now x (Keyed-jump xs i (data_of x.key).index now visits on next) refl found

  -- an entry that wasn't visited yet is as it was
  pub Keyed-same : (xs : List (Visit K V)) (i : ℕ) (now : map.FinMap key_cmp V) → Visits data_of old xs (from_index i old) now → (k : Key) → i ≤ k.index → map.get old k ≡ map.get now k
  Keyed-same xs i now visits k from = sym (unvisited data_of old xs (from_index i old) now k visits (get_from i old k from))

  -- the closure's state when it reaches a key that is still there
  pub Keyed-may_come : {F : Type 0} (g : Mut F (K × (MutBor V × Unit {0})) (Bool × (MutBor V × Unit {0}))) (f f' : F) (xs : List (Visit K V)) (i : ℕ)
      (now : map.FinMap key_cmp V) → FoldsTo (CallsAt g) f xs f' → Visits data_of old xs (from_index i old) now
      → (k : Key) → map.contains_key now k ≡ true → i ≤ k.index → MayCome g data_of f old k f'
  Keyed-may_come g f f' xs i now calls visits k there from =
      let same = get_from i old k from in
      let to_come = ap is_some (same ∙ sym (unvisited data_of old xs (from_index i old) now k visits same)) ∙ there in
      record { visits = xs; calls = calls; rest = from_index i old; listed = visits.listed; to_come = to_come }

  -- if no key is left from an index on
  pub Keyed-done : (xs : List (Visit K V)) (i : ℕ) (now : map.FinMap key_cmp V) → Visits data_of old xs (from_index i old) now
      → ((q : Key) → map.contains_key now q ≡ true → q.index < i) → Visits data_of old xs map.empty now
  Keyed-done xs i now visits below = grind (arith, none_live (from_index i old), in_from, unvisited data_of old xs (from_index i old) now, get_from)

  -- past the last index
  pub Keyed-to_end : (xs : List (Visit K V)) (i : ℕ) (now : map.FinMap key_cmp V) → Visits data_of old xs (from_index i old) now
      → ((q : Key) → map.contains_key old q ≡ true → q.index < i) → Visits data_of old xs map.empty now
  Keyed-to_end xs i now visits below = subst (λ rest. Visits data_of old xs rest now) (from_index-end i old below) visits
