-- What follows from a run of a machine alone.
use Rattle.std.proofs.Common.{◌≡◌, ◌≢◌, ◌+◌, ◌≤◌, ◌∷◌, ◌⊎◌}
use Rattle.std.specs.FinMap as map
use Rattle.std.specs.FinSet as set
use Rattle.slotmap_run.proofs.Common.{in_use, Command, Reply}
use Rattle.slotmap_core.proofs.Common.{IsDistinct, AllByRecursion, eq_by_cmp, IsIssued, after_insert, empty_state, Unretiring, reply_keys, keys_told, NoKeyTwice, keys_total, exact_keys, in_retired}
use Rattle.slotmap_core.proofs.Common.{Key, key_cmp, most, State, StandsIn, Fresh, retired, Run, RunGiven, itself, List, [], true, false, inl, inr, refl, ap, arith}
use Rattle.slotmap_run.proofs.{Runs.run_keeps, MapChanges.changes}
use Rattle.slotmap_run.proofs.UsedCounts.{IsApart, bound_held, no_more_used, one_more_used}
use Rattle.slotmap_core.specs.Step as plain

pub weaker : {A : Type 0} {P Q : A → Type 0} → ((x : A) → P x → Q x) → (xs : List A) → AllByRecursion P xs → AllByRecursion Q xs
weaker f [] h = tt
weaker f (x ∷ xs) h = (f x h.0, weaker f xs h.1)

pub none_retired_at_first : (V : Type 0) → retired (empty_state {V = V}) ≡ set.empty
none_retired_at_first V = set.same_set keys_total exact_keys _ _ (λ k. grind (arith, in_retired (empty_state {V = V}) k, set.contains-empty key_cmp k))

none_used : (V : Type 0) → in_use (empty_state {V = V}) ≡ 0
none_used V = omega (arith, map.len-empty key_cmp V, set.len-empty key_cmp, ap set.len (none_retired_at_first V))

module _ {V : Type 0} where
  -- k was returned, and is neither live nor detached
  pub record Gone (s : State V) (k : Key) : Type 0 where
    pub not_standing : StandsIn s k → ⊥
    pub issued : IsIssued s k

  -- what the empty state has, and each step keeps
  pub record IsGood (s : State V) : Type 0 where
    pub held_issued : (k : Key) → StandsIn s k → IsIssued s k
    pub apart : IsApart s
    -- the inserts that are owed don't exceed the limit
    pub within : in_use s + s.promised ≤ most

  pub empty_good : IsGood empty_state
  empty_good = grind (arith, map.get-empty {X = V} key_cmp, set.contains-empty key_cmp, none_used V)

  pub not_issued : (s : State V) (k : Key) → Fresh s k → IsIssued s k → ⊥
  not_issued s k f h = let less = f.newer k h refl in absurd (omega arith)

module _ {K V R E : Type 0} (data_of : K → Key) where
  -- the reply is a fresh key, which has a value then
  pub record Binds (old : State V) (r : Reply K V R E) (new : State V) : Type 0 where
    pub key : Key
    pub value : V
    pub by_dictionary : reply_keys data_of r ≡ key ∷ []
    pub below_limit : in_use old ≢ most
    pub fresh : Fresh old key
    pub is : new ≡ after_insert old key value

  -- no key is returned, and none becomes live or detached that was neither
  pub record Shrinks (old : State V) (r : Reply K V R E) (new : State V) : Type 0 where
    pub by_dictionary : reply_keys data_of r ≡ []
    pub issued : new.issued ≡ old.issued
    pub held : (k : Key) → StandsIn new k → StandsIn old k
    pub apart : IsApart old → IsApart new
    pub promised : old.promised ≤ new.promised + 1
    -- what is newly promised doesn't exceed the limit
    pub within : in_use old + old.promised ≤ most → in_use old + new.promised ≤ most

-- A machine of primary maps: each step binds a fresh key, or none; and its steps for plain commands are those of the plain machine (`of`
-- makes a command of this machine from a plain one)
pub record IsMachine {K V R E C : Type 0} (given : RunGiven K V R E) (Step : State V → C → Reply K V R E → State V → Type 0) (of : Command K V → C) : Type 0 where
  pub cases : (old : State V) (c : C) (r : Reply K V R E) (new : State V) → Step old c r new → Binds given.data_of old r new ⊎ Shrinks given.data_of old r new
  pub plainly : (old : State V) (c : Command K V) (r : Reply K V R E) (new : State V) → Step old (of c) r new → plain.Step given old c r new

module _ {K V R E C : Type 0} {given : RunGiven K V R E} {Step : State V → C → Reply K V R E → State V → Type 0} {of : Command K V → C} (m : IsMachine given Step of) where
  issued_stays : (old : State V) (c : C) (r : Reply K V R E) (new : State V) → Step old c r new → (k : Key) → IsIssued old k → IsIssued new k
  issued_stays old c r new step k h = grind (arith, m.cases old c r new step, changes)

  pub good_stays : (old : State V) (c : C) (r : Reply K V R E) (new : State V) → Step old c r new → IsGood old → IsGood new
  good_stays old c r new step good = grind (arith, one_more_used, changes, no_more_used)

  pub gone_stays : (k : Key) (old : State V) (c : C) (r : Reply K V R E) (new : State V) → Step old c r new → Gone old k → Gone new k
  gone_stays k old c r new step gone = grind (arith, changes, bound_held)

  -- no key that the replies return was issued before, and they return none twice
  pub told_new : (cs : List C) (rs : List (Reply K V R E)) (s t : State V) → Run Step s cs rs t
      → AllByRecursion (λ q. IsIssued s q → ⊥) (keys_told given.data_of rs) × NoKeyTwice given.data_of rs
  unfolding IsDistinct
  told_new [] [] s t run = (tt, tt)
  told_new (c ∷ cs) (r ∷ rs) s t run =
      let rest = told_new cs rs run.0 t run.2 in
      let new = weaker (λ q h g. h (issued_stays s c r run.0 run.1 q g)) (keys_told given.data_of rs) rest.0 in
      elim (m.cases s c r run.0 run.1) [
        | inl b ↦
            let other : (q : Key) → (IsIssued run.0 q → ⊥) → eq_by_cmp key_cmp b.key q ≡ false = λ q h. grind (arith, changes, itself keys_total exact_keys b.key, b.is) in
            rw b.by_dictionary ((not_issued s b.key b.fresh, new), (weaker other (keys_told given.data_of rs) rest.0, rest.1))
        | inr n ↦ rw n.by_dictionary (new, rest.1)
      ]
  told_new _ _ s t run = absurd run

  retired_stays : (k : Key) (old : State V) (c : C) (r : Reply K V R E) (new : State V) → Step old c r new → set.contains (retired old) k ≡ true → set.contains (retired new) k ≡ true
  retired_stays k old c r new step h = grind (arith, gone_stays k old c r new step, in_retired old k, in_retired new k)

  -- if nothing is retired at the end, nothing ever was
  pub unretired : (cs : List C) (rs : List (Reply K V R E)) (s t : State V) → Run Step s cs rs t → retired t ≡ set.empty → Run (Unretiring Step) s cs rs t
  unretired [] [] s t run none = run
  unretired (c ∷ cs) (r ∷ rs) s t run none =
      let still = λ (k : Key). run_keeps Step (λ u. set.contains (retired u) k ≡ true) (retired_stays k) cs rs run.0 t run.2 in
      let nothing = set.same_set keys_total exact_keys (retired run.0) set.empty (λ k. grind (arith, still k, none, set.contains-empty key_cmp k)) in
      (run.0, (run.1, nothing), unretired cs rs run.0 t run.2 none)
  unretired _ _ s t run none = absurd run
