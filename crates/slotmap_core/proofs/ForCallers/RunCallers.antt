-- What the laws of a run say of replies by their positions: for callers, who know commands and replies by index.
-- For callers.
use Rattle.std.proofs.Common.{◌≡◌, ◌≢◌, ℕ, zero, ◌+◌, ◌-◌, ◌<◌, ◌≤◌, List, ◌∷◌, ◌++◌, length, take, drop, slice_get, Some, false, ◌⊎◌, ◌∙◌, arith}
use Rattle.std.proofs.Common.{suc, [], Ok, Bool, true, refl, sym, ap}
use Rattle.std.proofs.lemmas.List.Sums.{count_by-le-length}
use Rattle.std.specs.List.{IsDistinct, AllByRecursion, AllZip}
use Rattle.std.specs.Ordering.{eq_by_cmp}
use Rattle.slotmap_core.specs.Law.{reply_keys, keys_told, NoKeyTwice, ReserveHolds, IsRefusal, Spares, DetachedNotReissued, DetachedReattaches, ReattachBinds}
use Rattle.slotmap_core.specs.{Key.Key, Key.key_cmp, Run.Run}
use Rattle.slotmap_core.specs.declared.commands.{Command.Command, DetachCommand.DetachCommand, Reply.Reply}
use Rattle.slotmap_core.proofs.General.KeyLemmas.{keys_total, exact_keys, untied}
use Rattle.slotmap_core.proofs.General.Positions.{split_at, split_at_two, split_at_pair, stands_between, at_seam, at_in_part, zipped_by_positions}
use Rattle.slotmap_core.specs.declared.commands.Command.TheVariants as command
use Rattle.slotmap_core.specs.declared.commands.DetachCommand.TheVariants as detaching
use Rattle.slotmap_core.specs.declared.commands.Reply.TheVariants as reply

module _ {S C R : Type 0} (Step : S → C → R → S → Type 0) where
  -- a run has as many replies as commands
  pub as_many : (s t : S) (cs : List C) (rs : List R) → Run Step s cs rs t → length rs ≡ length cs
  as_many s t [] [] run = refl
  as_many s t (c ∷ cs) (r ∷ rs) run = let rest = as_many run.0 t cs rs run.2 in omega arith
  as_many s t _ _ run = absurd run

  -- the first step of a run, and the run from there
  pub record Begins (s : S) (c : C) (cs : List C) (rs : List R) (t : S) : Type 0 where
    pub answer : R
    pub rest : List R
    pub is : rs ≡ answer ∷ rest
    pub mid : S
    pub step : Step s c answer mid
    pub run : Run Step mid cs rest t

  pub begins : (s : S) (c : C) (cs : List C) (rs : List R) (t : S) → Run Step s (c ∷ cs) rs t → Begins s c cs rs t
  begins s c cs rs t run = grind arith

all_right : {X : Type 0} (P : X → Type 0) (xs ys : List X) → AllByRecursion P (xs ++ ys) → AllByRecursion P ys
all_right P [] ys h = h
all_right P (x ∷ xs) ys h = all_right P xs ys h.1

distinct_right : {X : Type 0} (e : X → X → Bool) (xs ys : List X) → IsDistinct e (xs ++ ys) → IsDistinct e ys
unfolding IsDistinct
distinct_right e [] ys h = h
distinct_right e (x ∷ xs) ys h = distinct_right e xs ys h.1

distinct_head : {X : Type 0} (e : X → X → Bool) (x : X) (ys : List X) → IsDistinct e (x ∷ ys) → AllByRecursion (λ y. e x y ≡ false) ys
unfolding IsDistinct
distinct_head e x ys h = h.0

module _ {K V R E : Type 0} (data_of : K → Key) where
  -- what holds of all keys that inserts returned holds of the key in one reply
  told_at : (P : Key → Type 0) (rs : List (Reply K V R E)) (i : ℕ) (k : K) → AllByRecursion P (keys_told data_of rs) → slice_get rs i ≡ Some (reply.Key k) → P (data_of k)
  told_at P [] i k all h = absurd (cc)
  told_at P (r ∷ rs) zero k all h = grind arith
  told_at P (r ∷ rs) (suc i) k all h = told_at P rs i k (all_right P (reply_keys data_of r) (keys_told data_of rs) all) h

  earlier_differs : (rs : List (Reply K V R E)) (i j : ℕ) (a b : K) → NoKeyTwice data_of rs → i < j → slice_get rs i ≡ Some (reply.Key a) → slice_get rs j ≡ Some (reply.Key b)
      → data_of a ≢ data_of b
  earlier_differs [] i j a b law less h g = absurd (cc)
  earlier_differs (r ∷ rs) i zero a b law less h g = absurd (omega arith)
  earlier_differs (r ∷ rs) zero (suc j) a b law less h g =
      let is : r ≡ reply.Key a = cc in
      let others = distinct_head (eq_by_cmp key_cmp) (data_of a) (keys_told data_of rs) (rw is at law) in
      untied keys_total exact_keys (data_of a) (data_of b) (told_at (λ q. eq_by_cmp key_cmp (data_of a) q ≡ false) rs j b others g)
  earlier_differs (r ∷ rs) (suc i) (suc j) a b law less h g = grind (arith, earlier_differs rs i j a b (distinct_right (eq_by_cmp key_cmp) (reply_keys data_of r) (keys_told data_of rs) law))

  -- the keys in the replies at two positions differ
  pub keys_differ : (replies : List (Reply K V R E)) (i j : ℕ) (a b : K) → NoKeyTwice data_of replies → i < j
      → slice_get replies i ≡ Some (reply.Key a) → slice_get replies j ≡ Some (reply.Key b) → data_of a ≢ data_of b
  keys_differ replies i j a b law less at_i at_j = earlier_differs replies i j a b law less at_i at_j

module _ {K V R E C : Type 0} (of : Command K V → C) (commands : List C) (replies : List (Reply K V R E)) where
  -- once the Reserve of n at one position succeeds, none of the next n commands is refused if it needs room
  pub reserved_not_refused : (needs_room : C → Bool) (i j n : ℕ) (c : C) (answer : Reply K V R E) → ReserveHolds of needs_room commands replies → i < j → j ≤ i + n → needs_room c ≡ true
      → slice_get commands i ≡ Some (of (command.Reserve n)) → slice_get commands j ≡ Some c
      → slice_get replies i ≡ Some reply.Done → slice_get replies j ≡ Some answer → IsRefusal answer → ⊥
  reserved_not_refused needs_room i j n c answer law less within grows reserves asks done answers =
      let asked = split_at_two commands i j _ _ less reserves asks in
      let told = split_at_two replies i j _ _ less done answers in
      law asked.before asked.between asked.after told.before told.between told.after n c answer (asked.at ∙ sym told.at)
      (omega (arith, asked.apart, told.apart)) (omega (arith, asked.apart, count_by-le-length needs_room asked.between)) grows asked.is told.is

module _ {K V R E : Type 0} (data_of : K → Key) (commands : List (DetachCommand K V)) (replies : List (Reply K V R E)) where
  -- once the Detach of a key at one position returned a value, no insert at a later one returns that key
  pub detached_not_returned : (i j : ℕ) (key other : K) (v : V) → DetachedNotReissued data_of commands replies → i < j
      → slice_get commands i ≡ Some (detaching.Detach key) → slice_get replies i ≡ Some (reply.Taken (Some v)) → slice_get replies j ≡ Some (reply.Key other)
      → data_of other ≢ data_of key
  detached_not_returned i j key other v law less detaches taken told =
      let asked = split_at commands i _ detaches in
      let answers = split_at_two replies i j _ _ less taken told in
      let none = law asked.before asked.after answers.before (answers.between ++ reply.Key other ∷ answers.after) key v (asked.at ∙ sym answers.at) asked.is answers.is in
      told_at data_of (λ q. q ≢ data_of key) (answers.between ++ reply.Key other ∷ answers.after) (length answers.between) other none (at_seam answers.between answers.after (reply.Key other))

  -- between the two positions no Reattach of the key succeeds
  abbrev pub StaysDetached : ℕ → ℕ → K → Type 0
  StaysDetached i j key = (n : ℕ) (other : K) (u : V) → i < n → n < j
      → slice_get commands n ≡ Some (detaching.Reattach other u) → slice_get replies n ≡ Some reply.Done → data_of other ≢ data_of key

  -- the command reattaches no key, or another one
  abbrev pub ReattachesOther : K → DetachCommand K V → Type 0
  ReattachesOther key (detaching.Reattach other u) = data_of other ≢ data_of key
  ReattachesOther key _ = Unit {0}

  -- no command between the two positions reattaches the key: for commands that are written out
  pub stays_detached : (i j : ℕ) (key : K) → AllByRecursion (ReattachesOther key) (take (j - (i + 1)) (drop (i + 1) commands)) → StaysDetached i j key
  stays_detached i j key none n other u more less reattaches done =
      let at : i + 1 + (n - (i + 1)) ≡ n = omega arith in
      at_in_part (ReattachesOther key) (i + 1) (j - (i + 1)) (n - (i + 1)) commands _ none (omega arith) (ap (slice_get commands) at ∙ reattaches)

  -- Once the Detach of a key at one position returned a value, a Reattach of it at a later one succeeds, if none succeeds in between. If
  -- existing slots may need memory, it may run out of memory instead, with the value
  pub detached_bound_or_memory : (reuses : Bool) (i j : ℕ) (key : K) (v w : V) (answer : Reply K V R E) → DetachedReattaches data_of reuses commands replies → i < j → StaysDetached i j key
      → slice_get commands i ≡ Some (detaching.Detach key) → slice_get commands j ≡ Some (detaching.Reattach key w)
      → slice_get replies i ≡ Some (reply.Taken (Some v)) → slice_get replies j ≡ Some answer
      → (answer ≡ reply.Done) ⊎ ((reuses ≡ false) × (answer ≡ reply.Memory (Some w)))
  detached_bound_or_memory reuses i j key v w answer law less stays detaches reattaches taken answers =
      let asked = split_at_two commands i j _ _ less detaches reattaches in
      let told = split_at_two replies i j _ _ less taken answers in
      let long : length asked.between ≡ length told.between = omega (arith, asked.apart, told.apart) in
      let spared : AllZip (Spares data_of (data_of key)) asked.between told.between = zipped_by_positions (Spares data_of (data_of key)) asked.between told.between long (λ n c r inside is_c is_r.
      spares c r (λ other u reattach done. stays (i + 1 + n) other u (omega arith) (omega (arith, asked.apart))
      (stands_between asked n c is_c ∙ ap Some reattach) (stands_between told n r is_r ∙ ap Some done))) in
      law asked.before asked.between asked.after told.before told.between told.after key v w answer (asked.at ∙ sym told.at) long spared asked.is told.is
    where
      spares : {k : Key} (c : DetachCommand K V) (r : Reply K V R E)
          → ((other : K) (u : V) → c ≡ detaching.Reattach other u → r ≡ reply.Done → data_of other ≢ k) → Spares data_of k c r
      spares c r h = grind arith

  -- where existing slots need no memory, it succeeds
  pub detached_bound : (i j : ℕ) (key : K) (v w : V) (answer : Reply K V R E) → DetachedReattaches data_of true commands replies → i < j → StaysDetached i j key
      → slice_get commands i ≡ Some (detaching.Detach key) → slice_get commands j ≡ Some (detaching.Reattach key w)
      → slice_get replies i ≡ Some (reply.Taken (Some v)) → slice_get replies j ≡ Some answer → answer ≡ reply.Done
  detached_bound i j key v w answer law less stays detaches reattaches taken answers = grind (arith, detached_bound_or_memory true i j key v w answer law less stays detaches reattaches taken answers)

-- once the Reattach of a key to a value succeeds, a Replace of it by the next command returns that value
pub bound_value : {K V R E : Type 0} (commands : List (DetachCommand K V)) (replies : List (Reply K V R E)) (i : ℕ) (key : K) (w u : V) (answer : Reply K V R E) → ReattachBinds commands replies
    → slice_get commands i ≡ Some (detaching.Reattach key w) → slice_get commands (i + 1) ≡ Some (detaching.Plain (command.Replace key u))
    → slice_get replies i ≡ Some reply.Done → slice_get replies (i + 1) ≡ Some answer → answer ≡ reply.Put (Ok w)
bound_value commands replies i key w u answer law reattaches replaces done answers =
    let asked = split_at_pair commands i _ _ reattaches replaces in
    let told = split_at_pair replies i _ _ done answers in
    law asked.before asked.after told.before told.after key w u answer (asked.at ∙ sym told.at) asked.is told.is
