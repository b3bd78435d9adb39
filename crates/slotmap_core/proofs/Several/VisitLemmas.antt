-- What an iteration leaves of a map, if it calls a closure for each entry and keeps or drops the entry.
-- For the crates of maps, runs and callers.
use Rattle.std.proofs.Common.{◌≡◌, Bool, cond, List, [], ◌∷◌, ◌++◌, append-nil, Some, None, is_some, refl, ap, subst, ◌∙◌, arith}
use Rattle.slotmap_core.specs.Words.{Mut, Called, Takes, FoldsTo, MutBor, find, Key, key_cmp, IsListing, IsListingBut, with_entries, Visit, CallsAt, CallableOnEach, seen, kept}
use Rattle.slotmap_core.proofs.General.ListingLemmas.{with_entries_push, with_entries-empty, insert-with_entries, remove-with_entries, unlisted_where_same, IsListingBut-start, IsListingBut-take}
use Rattle.slotmap_core.proofs.General.ListingLemmas.{get-with_entries, insert-remove, unlisted, IsListingBut-done}
use denote.Param.Always.{always_mut, mut_next}
use Rattle.std.specs.FinMap as map

-- what a call saw and left, as a visit
pub CallsAt-called : {F K V : Type 0} (g : Mut F (K × (MutBor V × Unit {0})) (Bool × (MutBor V × Unit {0}))) {f f' : F} {key : K}
    {shown left : MutBor V} {stays : Bool} → Called g f (key, (shown, tt)) (stays, (left, tt)) f'
    → CallsAt g f (record { key = key; before = shown.now; after = left.now; stays = stays }) f'
CallsAt-called g {f} {f'} {key} {shown} {left} {stays} called = record { shown = shown; shows = refl; left = left; leaves = refl; called = called }

module _ {K V : Type 0} (data_of : K → Key) where
  pub seen_push : (xs : List (Visit K V)) (x : Visit K V) → seen data_of (xs ++ x ∷ []) ≡ seen data_of xs ++ (data_of x.key, x.before) ∷ []
  seen_push [] x = refl
  seen_push (y ∷ xs) x = ap (λ es. (data_of y.key, y.before) ∷ es) (seen_push xs x)

  kept_push : (xs : List (Visit K V)) (x : Visit K V) → kept data_of (xs ++ x ∷ []) ≡ kept data_of xs ++ cond x.stays ((data_of x.key, x.after) ∷ []) []
  kept_push [] x = refl
  kept_push (y ∷ xs) x = grind (arith, kept_push xs x)

  -- a key that no call saw isn't kept
  pub unkept : (k : Key) (xs : List (Visit K V)) → find key_cmp k (seen data_of xs) ≡ None → find key_cmp k (kept data_of xs) ≡ None
  unkept k [] none = refl
  unkept k (x ∷ xs) none = let rest = unkept k xs in grind arith

  -- The calls saw the entries of the old map outside of the rest. The map holds what they kept, and the rest
  pub record Visits (old : map.FinMap key_cmp V) (visits : List (Visit K V)) (rest now : map.FinMap key_cmp V) : Type 0 where
    pub listed : IsListingBut old (seen data_of visits) rest
    pub stay : now ≡ with_entries rest (kept data_of visits)

  pub Visits-start : (m : map.FinMap key_cmp V) → Visits m [] m m
  Visits-start m = record { listed = IsListingBut-start m; stay = refl }

  -- an entry that no call saw is as it was
  pub unvisited : (old : map.FinMap key_cmp V) (xs : List (Visit K V)) (rest now : map.FinMap key_cmp V) (k : Key) → Visits old xs rest now
      → map.get rest k ≡ map.get old k → map.get now k ≡ map.get old k
  unvisited old xs rest now k visits same = grind (arith, get-with_entries, unkept, unlisted_where_same)

  -- one more call, for an entry of the rest
  pub Visits-call : (old : map.FinMap key_cmp V) (xs : List (Visit K V)) (rest now : map.FinMap key_cmp V) (x : Visit K V) → Visits old xs rest now → map.get rest (data_of x.key) ≡ Some x.before
      → Visits old (xs ++ x ∷ []) (map.remove rest (data_of x.key)) (cond x.stays (map.insert now (data_of x.key) x.after) (map.remove now (data_of x.key)))
  Visits-call old xs rest now x visits found =
      let listed = IsListingBut-take old (seen data_of xs) rest (data_of x.key) x.before visits.listed found in
      let none = unkept (data_of x.key) xs (unlisted old (seen data_of xs) rest (data_of x.key) visits.listed (ap is_some found)) in
      let written = insert-with_entries rest (kept data_of xs) (data_of x.key) x.after none in
      let removed = remove-with_entries rest (kept data_of xs) (data_of x.key) none in
      grind (arith, listed, seen_push, kept_push, written, removed, insert-remove, with_entries_push, append-nil)

  -- an entry of the rest is one of the old map
  pub Visits-rest : (old : map.FinMap key_cmp V) (xs : List (Visit K V)) (rest now : map.FinMap key_cmp V) → Visits old xs rest now → (k : Key) (v : V)
      → map.get rest k ≡ Some v → map.get old k ≡ Some v
  Visits-rest old xs rest now visits k v found = grind (arith, get-with_entries, unlisted)

  pub Visits-listed : (old : map.FinMap key_cmp V) (xs : List (Visit K V)) (now : map.FinMap key_cmp V) → Visits old xs map.empty now → IsListing old (seen data_of xs)
  Visits-listed old xs now visits = IsListingBut-done old (seen data_of xs) visits.listed

  pub Visits-stay : (old : map.FinMap key_cmp V) (xs : List (Visit K V)) (now : map.FinMap key_cmp V) → Visits old xs map.empty now → now ≡ map.from_entries (kept data_of xs)
  Visits-stay old xs now visits = visits.stay ∙ with_entries-empty (kept data_of xs)

module _ {F K V : Type 0} (g : Mut F (K × (MutBor V × Unit {0})) (Bool × (MutBor V × Unit {0}))) (data_of : K → Key) where
  -- what the calls of a closure keep true of it
  kept_along : (I : F → Type 0) → ((f f' : F) (x : Visit K V) → I f → CallsAt g f x f' → I f') → (f f' : F) (xs : List (Visit K V)) → I f → FoldsTo (CallsAt g) f xs f' → I f'
  kept_along I each f f' [] holds run = subst I run holds
  kept_along I each f f' (x ∷ xs) holds run = kept_along I each run.0 f' xs (each f run.0 x holds run.1) run.2

  -- a closure may be called for each entry, if a fact allows a call and each call keeps the fact
  pub callable_by : (I : F → Type 0) → ((f f' : F) (x : Visit K V) → I f → CallsAt g f x f' → I f') → (f : F) (m : map.FinMap key_cmp V) → I f
      → ((f' : F) (key : K) (shown : MutBor V) → I f' → map.get m (data_of key) ≡ Some shown.now → Takes g f' (key, (shown, tt))) → CallableOnEach g data_of f m
  callable_by I each f m holds takes = record { at = λ f' key shown come found. takes f' key shown (kept_along I each f f' come.visits holds come.calls) found }

  -- a closure that can always be called
  pub callable_on_each : (f : F) (m : map.FinMap key_cmp V) → always_mut g f → CallableOnEach g data_of f m
  callable_on_each f m always =
      callable_by (always_mut g) (λ f f' x holds call. mut_next g f _ _ f' f' call.called refl holds) f m always (λ f' key shown holds found. (holds.at ((key, (shown, tt)) ∷ [])).0)
