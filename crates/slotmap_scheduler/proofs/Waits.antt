-- The waiting jobs: each handle is there once, and they are sorted by time.
use Rattle.std.proofs.Common.{◌++◌, ◌∷◌, ◌≡◌, ◌≤◌}
use Rattle.slotmap.specs.KeysAlone.{keys_of}
use Rattle.slotmap_bounded.specs.Mapped.{map_values}
use Rattle.slotmap_scheduler.proofs.Common.{itself, option_map, All, All-cons, All-head, All-nil, All-tail, AllByRecursion, InOrder, IsByTime, IsOnce, Job, Key, List, None, Some, T, Timed, Turn}
use Rattle.slotmap_scheduler.proofs.Common.{Waiting, [], ap, arith, as_seen, below_all, by_turn, exact_keys, find, is_lt, is_sorted, job_of, key_cmp, keys-mapped, keys_total, list_map, nat_tests}
use Rattle.slotmap_scheduler.proofs.Common.{refl, shown, tied, turn_cmp, unplaced, waiting_of, ℕ}
use Rattle.slotmap_scheduler.proofs.{Sorted.all_of, Sorted.not_behind, Order.exact_turns, Order.turns_total}
use Rattle.std.specs.FinMap as map

keys_alone : {V : Type 0} (m : map.FinMap key_cmp V) → map.keys (keys_of m) ≡ map.keys m
unfolding keys_of map_values
keys_alone {V} m = keys-mapped {W = Unit {0}} (λ (v : V). tt) m

module _ {A : Type 0} where
  all_later : (t : Turn) (es : List (Turn × (Key × A))) → T (below_all turn_cmp t es) → All (λ (x : Key × (ℕ × A)). t.0 ≤ x.1.0) (list_map as_seen es)
  all_later t [] below = All-nil (λ (x : Key × (ℕ × A)). t.0 ≤ x.1.0)
  all_later t (e ∷ es) below = All-cons (λ (x : Key × (ℕ × A)). t.0 ≤ x.1.0) (as_seen e) (list_map as_seen es) (grind (arith, nat_tests)) (all_later t es (grind arith))

  by_time : (es : List (Turn × (Key × A))) → T (is_sorted turn_cmp es) → IsByTime (list_map as_seen es)
  by_time [] sorted = tt
  by_time (e ∷ es) sorted = (all_later e.0 es (grind arith), by_time es (grind arith))

  module _ (jobs : Timed A) where
    abbrev IsThere : Turn × (Key × A) → Type 0
    IsThere e = map.get jobs e.1.0 ≡ Some (e.0, e.1.1)

    lone : (e : Turn × (Key × A)) → IsThere e → (es : List (Turn × (Key × A))) → T (below_all turn_cmp e.0 es) → AllByRecursion IsThere es → job_of e.1.0 (list_map as_seen es) ≡ None
    lone e at [] below all = refl
    lone e at (x ∷ es) below all = let less : T (is_lt (turn_cmp e.0 x.0)) = grind arith in
        grind (arith, nat_tests, tied keys_total exact_keys e.1.0 x.1.0, lone e at es (grind arith) all.1, all.0)

    once : (es : List (Turn × (Key × A))) → T (is_sorted turn_cmp es) → AllByRecursion IsThere es → IsOnce (list_map as_seen es)
    once [] sorted all = tt
    once (e ∷ es) sorted all = (lone e all.0 es (grind arith) all.1, once es (grind arith) all.1)

    module _ (count : ℕ) (is : InOrder jobs count) where
      pub waits_once : IsOnce (waiting_of jobs)
      waits_once =
          once (map.entries (by_turn jobs)) (map.entries_sorted (by_turn jobs))
          (all_of turns_total exact_turns (λ t x. map.get jobs x.0 ≡ Some (t, x.1)) (by_turn jobs) (λ t x there. is.turns.from t x.0 x.1 there))

    pub waits_by_time : IsByTime (waiting_of jobs)
    waits_by_time = by_time (map.entries (by_turn jobs)) (map.entries_sorted (by_turn jobs))

  -- the first part of a sorted list is sorted
  all_first : (P : Key × (ℕ × A) → Type 0) (es ws : Waiting A) → All P (es ++ ws) → All P es
  all_first P [] ws all = All-nil P
  all_first P (e ∷ es) ws all = All-cons P e es (All-head P e (es ++ ws) all) (all_first P es ws (All-tail P e (es ++ ws) all))

  pub sorted_first : (es ws : Waiting A) → IsByTime (es ++ ws) → IsByTime es
  sorted_first [] ws sorted = tt
  sorted_first (e ∷ es) ws sorted = (all_first (λ x. e.1.0 ≤ x.1.0) es ws sorted.0, sorted_first es ws sorted.1)

  -- none is due before the first one, as it is one of them
  pub least_first : (e : Key × (ℕ × A)) (es ws : Waiting A) → IsByTime ws → ws ≡ e ∷ es → All (λ x. e.1.0 ≤ x.1.0) ws
  least_first e es ws sorted is = rw is (All-cons (λ (x : Key × (ℕ × A)). e.1.0 ≤ x.1.0) e es (omega arith) (rw is at sorted).0)

  -- the jobs as an iterator yields them: by ascending handle
  shown_keys : (es : List (Key × Job A)) → list_map (λ (x : Key × (ℕ × A)). x.0) (list_map shown es) ≡ list_map (λ (x : Key × Job A). x.0) es
  shown_keys [] = refl
  shown_keys (e ∷ es) = ap (λ ks. e.0 ∷ ks) (shown_keys es)

  pub shown_in_order : (jobs : map.FinMap key_cmp (Job A)) → list_map (λ (x : Key × (ℕ × A)). x.0) (list_map shown (map.entries jobs)) ≡ map.keys (keys_of (map_values unplaced jobs))
  shown_in_order jobs = grind (arith, shown_keys (map.entries jobs), keys_alone (map_values unplaced jobs), keys-mapped unplaced jobs)

  pub find-shown : (es : List (Key × Job A)) (k : Key) → job_of k (list_map shown es) ≡ option_map (λ (j : Job A). (j.turn.0, j.job)) (find key_cmp k es)
  find-shown [] k = refl
  find-shown (e ∷ es) k = grind (arith, find-shown es k)

  shown_sorted : (es : List (Key × Job A)) → T (is_sorted key_cmp es) → IsOnce (list_map shown es)
  shown_sorted [] sorted = tt
  shown_sorted (e ∷ es) sorted = (
    grind (arith, find-shown es e.0, not_behind keys_total exact_keys e.0 e.0 es, itself keys_total exact_keys e.0),
    shown_sorted es (grind arith),
  )

  pub shown_once : (jobs : map.FinMap key_cmp (Job A)) → IsOnce (list_map shown (map.entries jobs))
  shown_once jobs = shown_sorted (map.entries jobs) (map.entries_sorted jobs)
