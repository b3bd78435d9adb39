-- Calls of two joined maps, one after another, are a run of the joined machine.
use Rattle.std.proofs.Common.{◌≡◌, ◌+◌, ◌^◌, ◌∷◌}
use Rattle.std.specs.FinMap as map
use Rattle.std.specs.FinSet as set
use Rattle.slotmap_run.proofs.Common.{joined, told_by, Known, JoinFollows, JoinServed}
use Rattle.slotmap_core.proofs.Common.{Content, places, IsNew, empty_state, Joined, RunsBeside, Dictionary, WithDictionary, RunsByDictionary, unused, IfOk-weaker, on_err_weaker, new_stands, ◌∙◌}
use Rattle.slotmap_core.proofs.Common.{Key, State, Fits, Lasts, Pairs, Run, Result, IfOk, OnErr, ℕ, List, [], length, refl, subst, arith}
use Rattle.slotmap_run.specs.declared.joined.Beside.{Beside}
use Rattle.slotmap_run.proofs.{Fits.new_fits, Fits.new_lasts, Runs.run_keeps}

is_new : {V : Type 0} (old : Content V) → places old ≡ 0 → IsNew old
is_new old no_places = grind (arith, map.empty_of_len old.live, set.empty_of_len old.detached, set.empty_of_len old.retired, map.empty_of_len old.next)

-- nothing is known of two maps that were never used
nothing_known : {K V W : Type 0} (data_of : K → Key) (old : Content V) (second : Pairs W) → IsNew old → second ≡ map.empty → Known data_of empty_state map.empty old second []
nothing_known {K} {V} {W} data_of old second new empty = grind (arith, new_stands, map.get-empty, set.contains-empty)

-- fewer calls
fewer_calls : {V : Type 0} (n : ℕ) (c : Content V) → Lasts (n + 2 ^ 31) c → Lasts (2 ^ 31) c
fewer_calls n c lasts = grind (arith, lasts.standing, lasts.vacant)

-- one call
module _ {M S K V W C R : Type 0} {data_of : K → Key} {content : M → Content V} {pairs : S → Pairs W}
    {Step : Joined K V W → C → R → Joined K V W → Type 0} {Telling : WithDictionary K V W → C → R → WithDictionary K V W → Type 0} {old new : Beside M S K} {c : C} {r : R} where
  pub served : JoinFollows data_of Step Telling (content old.primary.now) (pairs old.secondary.now) old.keys.now.items c r (content new.primary.now) (pairs new.secondary.now) new.keys.now.items
      → new.primary.ghost_name ≡ old.primary.ghost_name → new.secondary.ghost_name ≡ old.secondary.ghost_name → JoinServed data_of content pairs Step Telling old c r new
  served follows primary secondary = record { follows = follows; same_primary = primary; same_secondary = secondary }

module _ {M S K V W C R : Type 0} (data_of : K → Key) (content : M → Content V) (pairs : S → Pairs W)
    (Step : Joined K V W → C → R → Joined K V W → Type 0) (Telling : WithDictionary K V W → C → R → WithDictionary K V W → Type 0) where
  abbrev Served : Beside M S K → C → R → Beside M S K → Type 0
  Served = JoinServed data_of content pairs Step Telling

  abbrev at : State V → Beside M S K → Joined K V W
  at s maps = joined s (pairs maps.secondary.now) maps.keys.now.items

  abbrev with : State V → Beside M S K → Dictionary W → WithDictionary K V W
  with s maps d = told_by s (pairs maps.secondary.now) maps.keys.now.items d

  runs_beside : (cs : List C) (rs : List R) (old new : Beside M S K) → Run Served old cs rs new → (s : State V) → Fits s (content old.primary.now)
      → (t : State V) × Run Step (at s old) cs rs (at t new) × Fits t (content new.primary.now)
  runs_beside [] [] old new e s fits = (s, rw e refl, rw e fits)
  runs_beside (c ∷ cs) (r ∷ rs) old new h s fits = let step = h.1.follows.step s fits in let rest = runs_beside cs rs h.0 new h.2 step.0 step.2 in (rest.0, (at step.0 h.0, step.1, rest.1), rest.2)
  runs_beside _ _ old new h s fits = absurd h

  -- and their replies are the dictionary's, if all is known
  runs_told : (cs : List C) (rs : List R) (old new : Beside M S K) → Run Served old cs rs new → (s : State V) (d : Dictionary W) → Fits s (content old.primary.now)
      → Known data_of s d (content old.primary.now) (pairs old.secondary.now) old.keys.now.items → Lasts (length cs + 2 ^ 31) (content old.primary.now)
      → (t : State V) × (e : Dictionary W) × Run Telling (with s old d) cs rs (with t new e) × Fits t (content new.primary.now)
  runs_told [] [] old new e s d fits known lasts = (s, d, rw e refl, rw e fits)
  runs_told (c ∷ cs) (r ∷ rs) old new h s d fits known lasts =
      let step = h.1.follows.step s fits in
      let one : length (c ∷ cs) + 2 ^ 31 ≡ length cs + 2 ^ 31 + 1 = omega arith in
      let less = h.1.follows.lasts (length cs + 2 ^ 31) (rw one at lasts) in
      let told = step.3 d known (fewer_calls (length cs) (content h.0.primary.now) less) in
      let rest = runs_told cs rs h.0 new h.2 step.0 told.0 step.2 told.2 less in
      (rest.0, rest.1, (with step.0 h.0 told.0, told.1, rest.2), rest.3)
  runs_told _ _ old new h s d fits known lasts = absurd h

  -- p and q are the two maps once the loop has ended
  module _ (cs : List C) (rs : List R) (old new : Beside M S K) (run : Run Served old cs rs new) (none : old.keys.now.items ≡ []) (p : M) (q : S)
      (is_p : new.primary.ghost_name ≡ old.primary.ghost_name → p ≡ new.primary.now) (is_q : new.secondary.ghost_name ≡ old.secondary.ghost_name → q ≡ new.secondary.now) where
    same_p : p ≡ new.primary.now
    same_p = is_p (run_keeps Served (λ maps. maps.primary.ghost_name ≡ old.primary.ghost_name) (λ s c r t h e. h.same_primary ∙ e) cs rs old new run refl)

    same_q : q ≡ new.secondary.now
    same_q = is_q (run_keeps Served (λ maps. maps.secondary.ghost_name ≡ old.secondary.ghost_name) (λ s c r t h e. h.same_secondary ∙ e) cs rs old new run refl)

    joined_run : RunsBeside Step (content old.primary.now) (pairs old.secondary.now) cs rs (content p) (pairs q)
    joined_run s fits =
        let ran = runs_beside cs rs old new run s fits in
        (at ran.0 new, subst (λ ks. Run Step (joined s (pairs old.secondary.now) ks) cs rs (at ran.0 new)) none ran.1, rw same_p ran.2, rw same_q refl)

    told_run : RunsByDictionary Telling (content old.primary.now) (pairs old.secondary.now) cs rs (content p) (pairs q)
    told_run no_places empty few =
        let new_first = is_new (content old.primary.now) no_places in
        let known = nothing_known data_of (content old.primary.now) (pairs old.secondary.now) new_first empty in
        let lasts = new_lasts (content old.primary.now) new_first (length cs + 2 ^ 31) (omega arith) in
        let ran = runs_told cs rs old new run empty_state map.empty (new_fits (content old.primary.now) new_first) (rw none known) lasts in
        let start : with empty_state old map.empty ≡ unused = rw (none, empty) refl in
        (with ran.0 new ran.1, subst (λ (x : WithDictionary K V W). Run Telling x cs rs (with ran.0 new ran.1)) start ran.2, rw same_p ran.3, rw same_q refl)

-- if nothing was run, both maps are as before
module _ {M S K V W : Type 0} (content : M → Content V) (pairs : S → Pairs W) {old new : Beside M S K} {p : M} {q : S} (same : new ≡ old)
    (is_p : new.primary.ghost_name ≡ old.primary.ghost_name → p ≡ new.primary.now) (is_q : new.secondary.ghost_name ≡ old.secondary.ghost_name → q ≡ new.secondary.now) where
  joined_kept : (content p ≡ content old.primary.now) × (pairs q ≡ pairs old.secondary.now)
  joined_kept = grind arith

-- what a function ensures that runs commands on two maps, a field for each clause
pub record JoinedIfOk {M S K V W C R A B : Type 0} (content : M → Content V) (pairs : S → Pairs W)
    (Step : Joined K V W → C → R → Joined K V W → Type 0) (Telling : WithDictionary K V W → C → R → WithDictionary K V W → Type 0)
    (cs : List C) (result : Result A B) (told : A → List R) (old : Beside M S K) (p : M) (q : S) : Type 0 where
  pub run : IfOk result (λ a. RunsBeside Step (content old.primary.now) (pairs old.secondary.now) cs (told a) (content p) (pairs q))
  pub dictionary : IfOk result (λ a. RunsByDictionary Telling (content old.primary.now) (pairs old.secondary.now) cs (told a) (content p) (pairs q))
  pub unchanged : OnErr result ((content p ≡ content old.primary.now) × (pairs q ≡ pairs old.secondary.now))

pub joined_if_ok : {M S K V W C R A B : Type 0} (data_of : K → Key) {content : M → Content V} {pairs : S → Pairs W}
    {Step : Joined K V W → C → R → Joined K V W → Type 0} {Telling : WithDictionary K V W → C → R → WithDictionary K V W → Type 0}
    {cs : List C} {old : Beside M S K} (new : Beside M S K)
    → (result : Result A B) (told : A → List R) (p : M) (q : S) → IfOk result (λ a. Run (JoinServed data_of content pairs Step Telling) old cs (told a) new) → OnErr result (new ≡ old)
    → old.keys.now.items ≡ [] → (new.primary.ghost_name ≡ old.primary.ghost_name → p ≡ new.primary.now)
    → (new.secondary.ghost_name ≡ old.secondary.ghost_name → q ≡ new.secondary.now)
    → JoinedIfOk content pairs Step Telling cs result told old p q
joined_if_ok data_of {content} {pairs} {Step} {Telling} {cs} {old} new result told p q ran same none is_p is_q = record {
  run = IfOk-weaker result _ _ (λ a run. joined_run data_of content pairs Step Telling cs (told a) old new run none p q is_p is_q) ran;
  dictionary = IfOk-weaker result _ _ (λ a run. told_run data_of content pairs Step Telling cs (told a) old new run none p q is_p is_q) ran;
  unchanged = on_err_weaker result (λ same. joined_kept content pairs same is_p is_q) same;
}
