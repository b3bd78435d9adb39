-- Jobs by their turns, of which no two are the same, and how a change of the jobs changes the order in which they are returned.
use Rattle.std.proofs.Common.{◌+◌, ◌<◌, ◌∷◌, ◌≡◌, ◌≢◌, ◌≤◌}
use Rattle.slotmap_scheduler.proofs.Common.{All, All-from_recursion, All-map, AllByRecursion, InOrder, Key, Less, List, None, Some, Timed, Turn, [], ap, arith, as_seen, by_order, by_turn, cond}
use Rattle.slotmap_scheduler.proofs.Common.{exact_keys, false, get_after_insert, get_after_remove, in_turn, is_some, itself, job_of, keys_total, len_removed, length, length-map, list_map, nat_lt}
use Rattle.slotmap_scheduler.proofs.Common.{nat_tests, nil_from_length, option_map, precedes, put, refl, sym, tied, turn_cmp, waiting_of, with_job, without, ℕ, ◌∙◌, CmpEqualImpliesEq}
use Rattle.slotmap_scheduler.proofs.Common.{IsInverse, IsTotalOrder, exact_pairs, exact_unsigned, find, key_cmp, nat_cmp, nat_cmp_total, on_total, then_total, untied}
use Rattle.slotmap_scheduler.proofs.Sorted.{all_of, entries_put, insert_same, inverse_put, inverse_removed, none_there, same_option}
use Rattle.std.specs.FinMap as map

pub exact_turns : CmpEqualImpliesEq turn_cmp
exact_turns = exact_pairs nat_cmp nat_cmp exact_unsigned exact_unsigned

pub turns_total : IsTotalOrder turn_cmp
turns_total = then_total (on_total (λ (t : Turn). t.0) nat_cmp_total) (on_total (λ (t : Turn). t.1) nat_cmp_total)

module _ {T : Type 0} where
  abbrev turned : Key × (Turn × T) → Turn × (Key × T)
  turned e = (e.1.0, (e.0, e.1.1))

  module _ (jobs : Timed T) where
    found_turn : (es : List (Key × (Turn × T))) → AllByRecursion (λ (e : Key × (Turn × T)). map.get jobs e.0 ≡ Some e.1) es → (t : Turn) (k : Key) (job : T)
        → find turn_cmp t (list_map turned es) ≡ Some (k, job) → map.get jobs k ≡ Some (t, job)
    found_turn [] all t k job at = absurd (cc)
    found_turn (e ∷ es) all t k job at = grind (arith, tied turns_total exact_turns t e.1.0, all.0, found_turn es all.1 t k job)

    module _ (one : (k q : Key) (t : Turn) (x y : T) → map.get jobs k ≡ Some (t, x) → map.get jobs q ≡ Some (t, y) → k ≡ q) where
      turn_found : (es : List (Key × (Turn × T))) → AllByRecursion (λ (e : Key × (Turn × T)). map.get jobs e.0 ≡ Some e.1) es → (k : Key) (t : Turn) (job : T)
          → map.get jobs k ≡ Some (t, job) → find key_cmp k es ≡ Some (t, job) → find turn_cmp t (list_map turned es) ≡ Some (k, job)
      turn_found [] all k t job at found = absurd (cc)
      turn_found (e ∷ es) all k t job at found =
          grind (arith, tied turns_total exact_turns t e.1.0, untied turns_total exact_turns t e.1.0, all.0, one e.0 k t e.1.1 job, turn_found es all.1 k t job at)

      pub inverse : IsInverse (map.get jobs) (map.get (by_turn jobs))
      unfolding by_turn
      inverse =
          let all = all_of keys_total exact_keys (λ k v. map.get jobs k ≡ Some v) jobs (λ k v there. there) in
          let by = map.get-from_entries turns_total (list_map turned (map.entries jobs)) in
          record {
            to = λ k t job at. by t ∙ turn_found (map.entries jobs) all k t job at (sym (map.get-entries jobs k) ∙ at);
            from = λ t k job at. found_turn (map.entries jobs) all t k job (sym (by t) ∙ at);
          }

    one_handle : (turns : map.FinMap turn_cmp (Key × T)) → IsInverse (map.get jobs) (map.get turns) → (k q : Key) (t : Turn) (x y : T)
        → map.get jobs k ≡ Some (t, x) → map.get jobs q ≡ Some (t, y) → k ≡ q
    one_handle turns is k q t x y at there = grind (arith, is.to k t x at, is.to q t y there)

    by_turn_is : (turns : map.FinMap turn_cmp (Key × T)) → IsInverse (map.get jobs) (map.get turns) → by_turn jobs ≡ turns
    by_turn_is turns is = let by = inverse (one_handle turns is) in
        map.same_map turns_total exact_turns (by_turn jobs) turns
        (λ t. same_option _ _ (λ x there. is.to x.0 t x.1 (by.from t x.0 x.1 there)) (λ x there. by.to x.0 t x.1 (is.from t x.0 x.1 there)))

  -- jobs that are in order, and how they wait, by what finds each by its turn
  pub in_order : (jobs : Timed T) (count : ℕ) (turns : map.FinMap turn_cmp (Key × T)) → IsInverse (map.get jobs) (map.get turns) → map.len turns ≡ map.len jobs
      → ((k : Key) (t : Turn) (job : T) → map.get jobs k ≡ Some (t, job) → t.1 < count) → InOrder jobs count × (waiting_of jobs ≡ list_map as_seen (map.entries turns))
  in_order jobs count turns is len numbered = grind (arith, by_turn_is jobs turns is)

-- a turn with the highest number is behind all of its time
last_turn : {A : Type 0} (time count u v : ℕ) → v < count → (a b c : A) → by_order (turn_cmp (time, count) (u, v)) a b c ≡ cond (nat_lt time u) a c
last_turn time count u v less a b c = grind (arith, nat_tests)

least_turn : (t u : Turn) → t ≢ u → precedes u t ≡ false → turn_cmp t u ≡ Less
unfolding precedes
least_turn t u other not_before = grind (arith, nat_tests, exact_turns t u)

pub time_up_to : (t u : Turn) → precedes u t ≡ false → t.0 ≤ u.0
unfolding precedes
time_up_to t u not_before = grind (arith, nat_tests)

module _ {T : Type 0} where
  -- a job among others, which are those of other handles
  module _ (k : Key) where
    abbrev IsOther : Turn × (Key × T) → Type 0
    IsOther e = k ≢ e.1.0

    none_found : (es : List (Turn × (Key × T))) → AllByRecursion IsOther es → job_of k (list_map as_seen es) ≡ None
    none_found [] all = refl
    none_found (e ∷ es) all = grind (arith, tied keys_total exact_keys k e.1.0, none_found es all.1)

    all_kept : (es : List (Turn × (Key × T))) → AllByRecursion IsOther es → without k (list_map as_seen es) ≡ list_map as_seen es
    all_kept [] all = refl
    all_kept (e ∷ es) all = grind (arith, tied keys_total exact_keys k e.1.0, all_kept es all.1)

    module _ (t : Turn) (job : T) where
      put_found : (es : List (Turn × (Key × T))) → AllByRecursion IsOther es → job_of k (list_map as_seen (put turn_cmp t (k, job) es)) ≡ Some (t.0, job)
      put_found [] all = grind (arith, itself keys_total exact_keys k)
      put_found (e ∷ es) all = grind (arith, itself keys_total exact_keys k, tied keys_total exact_keys k e.1.0, put_found es all.1)

      put_with_job : (w : T) (es : List (Turn × (Key × T))) → AllByRecursion IsOther es
          → with_job k w (list_map as_seen (put turn_cmp t (k, job) es)) ≡ list_map as_seen (put turn_cmp t (k, w) es)
      put_with_job w [] all = grind (arith, itself keys_total exact_keys k)
      put_with_job w (e ∷ es) all = grind (arith, itself keys_total exact_keys k, tied keys_total exact_keys k e.1.0, put_with_job w es all.1)

      put_without : (es : List (Turn × (Key × T))) → AllByRecursion IsOther es → AllByRecursion (λ (e : Turn × (Key × T)). t ≢ e.0) es
          → without k (list_map as_seen (put turn_cmp t (k, job) es)) ≡ list_map as_seen es
      put_without [] all turns = grind (arith, itself keys_total exact_keys k)
      put_without (e ∷ es) all turns =
          grind (arith, itself keys_total exact_keys k, tied keys_total exact_keys k e.1.0, all_kept es all.1, put_without es all.1 turns.1, exact_turns t e.0, turns.0)

  put_last : (time count : ℕ) (k : Key) (job : T) (es : List (Turn × (Key × T))) → AllByRecursion (λ (e : Turn × (Key × T)). e.0.1 < count) es
      → list_map as_seen (put turn_cmp (time, count) (k, job) es) ≡ in_turn (k, (time, job)) (list_map as_seen es)
  put_last time count k job [] all = refl
  put_last time count k job (e ∷ es) all = grind (arith, last_turn {A = List (Turn × (Key × T))} time count e.0.0 e.0.1 all.0, put_last time count k job es all.1)

  module _ (jobs : Timed T) (count : ℕ) (is : InOrder jobs count) where
    free : (time : ℕ) → map.get (by_turn jobs) (time, count) ≡ None
    free time = none_there _ (λ x there. let less = is.numbered x.0 (time, count) x.1 (is.turns.from (time, count) x.0 x.1 there) in omega arith)

    -- a new job is behind all of its time
    module _ (k : Key) (time : ℕ) (job : T) (new : map.get jobs k ≡ None) where
      pub added : InOrder (map.insert jobs k ((time, count), job)) (count + 1) × (waiting_of (map.insert jobs k ((time, count), job)) ≡ in_turn (k, (time, job)) (waiting_of jobs))
      added =
          let with = in_order (map.insert jobs k ((time, count), job)) (count + 1) (map.insert (by_turn jobs) (time, count) (k, job))
          (inverse_put keys_total exact_keys turns_total exact_turns jobs (by_turn jobs) is.turns k (time, count) job
          (λ q x there. absurd (let less = is.numbered q (time, count) x there in omega arith)) (λ t x there. absurd (let was = is.turns.from t k x there in cc)))
          (grind (arith, map.len-insert turns_total (by_turn jobs) (time, count) (k, job), map.len-insert keys_total jobs k ((time, count), job), is.len, free time))
          (λ q t x there. grind (arith, get_after_insert keys_total exact_keys jobs k ((time, count), job) q (t, x) there, is.numbered q t x)) in
          let before = all_of turns_total exact_turns (λ t x. t.1 < count) (by_turn jobs) (λ t x there. is.numbered x.0 t x.1 (is.turns.from t x.0 x.1 there)) in
          (with.0, with.1 ∙ ap (list_map as_seen) (map.entries-insert turns_total (by_turn jobs) (time, count) (k, job)) ∙ put_last time count k job (map.entries (by_turn jobs)) before)

    module _ (k : Key) (t : Turn) (job : T) (at : map.get jobs k ≡ Some (t, job)) where
      turn_at : map.get (by_turn jobs) t ≡ Some (k, job)
      turn_at = is.turns.to k t job at

      -- the other jobs, in order
      abbrev others : List (Turn × (Key × T))
      others = map.entries (map.remove (by_turn jobs) t)

      other_keys : AllByRecursion (IsOther k) others
      other_keys = all_of turns_total exact_turns (λ u x. k ≢ x.0) (map.remove (by_turn jobs) t)
          (λ u x there. grind (arith, get_after_remove turns_total exact_turns (by_turn jobs) t u x there, is.turns.from u x.0 x.1))

      other_turn : (u : Turn) (x : Key × T) → map.get (map.remove (by_turn jobs) t) u ≡ Some x → t ≢ u
      other_turn u x there = grind (arith, get_after_remove turns_total exact_turns (by_turn jobs) t u x there)

      among : map.entries (by_turn jobs) ≡ put turn_cmp t (k, job) others
      among = ap map.entries (sym (insert_same turns_total exact_turns (by_turn jobs) t (k, job) turn_at)) ∙ entries_put turns_total exact_turns (by_turn jobs) t (k, job)

      others_wait : list_map as_seen others ≡ without k (waiting_of jobs)
      others_wait = grind (arith, among, put_without k t job others other_keys, all_of turns_total exact_turns (λ u x. t ≢ u) (map.remove (by_turn jobs) t) other_turn)

      -- without a job the others keep their order
      pub removed : InOrder (map.remove jobs k) count × (waiting_of (map.remove jobs k) ≡ without k (waiting_of jobs))
      removed =
          let with = in_order (map.remove jobs k) count (map.remove (by_turn jobs) t)
          (inverse_removed keys_total exact_keys turns_total exact_turns jobs (by_turn jobs) is.turns k t job at)
          (let a = len_removed keys_total exact_keys jobs k (ap is_some at) in let b = len_removed turns_total exact_turns (by_turn jobs) t (ap is_some turn_at) in let c = is.len in omega arith)
          (λ q u x there. is.numbered q u x (get_after_remove keys_total exact_keys jobs k q (u, x) there).1) in
          (with.0, with.1 ∙ others_wait)

      -- a job is written in its place
      module _ (w : T) where
        pub written : InOrder (map.insert jobs k (t, w)) count × (waiting_of (map.insert jobs k (t, w)) ≡ with_job k w (waiting_of jobs))
        written =
            let with = in_order (map.insert jobs k (t, w)) count (map.insert (by_turn jobs) t (k, w)) (inverse_put keys_total exact_keys turns_total exact_turns jobs (by_turn jobs) is.turns k t w
            (λ q x there. grind (arith, is.turns.to q t x there, turn_at)) (λ u x there. grind (arith, is.turns.from u k x there, at)))
            (grind (arith, map.len-insert turns_total (by_turn jobs) t (k, w), map.len-insert keys_total jobs k (t, w), is.len, at, turn_at))
            (λ q u x there. grind (arith, get_after_insert keys_total exact_keys jobs k (t, w) q (u, x) there, is.numbered q u x, is.numbered k t job at)) in (
              with.0,
              with.1 ∙ ap (list_map as_seen) (entries_put turns_total exact_turns (by_turn jobs) t (k, w))
                  ∙ sym (ap (λ es. with_job k w (list_map as_seen es)) among ∙ put_with_job k t job w others other_keys),
            )

      -- it is the first, if no other turn is before its own
      module _ (least : (q : Key) (u : Turn) (x : T) → map.get jobs q ≡ Some (u, x) → precedes u t ≡ false) where
        put_first : (es : List (Turn × (Key × T))) → AllByRecursion (λ (e : Turn × (Key × T)). turn_cmp t e.0 ≡ Less) es → put turn_cmp t (k, job) es ≡ (t, (k, job)) ∷ es
        put_first [] all = refl
        put_first (e ∷ es) all = grind (arith, all.0)

        pub waits_first : waiting_of jobs ≡ (k, (t.0, job)) ∷ without k (waiting_of jobs)
        waits_first =
            let before = all_of turns_total exact_turns (λ u x. turn_cmp t u ≡ Less) (map.remove (by_turn jobs) t) (λ u x there. least_turn t u (other_turn u x there)
            (least x.0 u x.1 (is.turns.from u x.0 x.1 (get_after_remove turns_total exact_turns (by_turn jobs) t u x there).1))) in
            ap (list_map as_seen) (among ∙ put_first others before) ∙ ap (λ l. (k, (t.0, job)) ∷ l) others_wait

        -- where it isn't due, none is
        pub none_due : (now : ℕ) → now < t.0 → All (λ e. now < e.1.0) (waiting_of jobs)
        none_due now later = All-map (λ (e : Key × (ℕ × T)). now < e.1.0) as_seen (map.entries (by_turn jobs))
            (All-from_recursion (λ (e : Turn × (Key × T)). now < e.0.0) (map.entries (by_turn jobs))
            (all_of turns_total exact_turns (λ u x. now < u.0) (by_turn jobs) (λ u x there. grind (arith, time_up_to t u, least x.0 u x.1, is.turns.from u x.0 x.1))))

    -- which time and which job a handle has
    pub job_is : (k : Key) → job_of k (waiting_of jobs) ≡ option_map (λ (x : Turn × T). (x.0.0, x.1)) (map.get jobs k)
    job_is k = elim (map.get jobs k) as (λ o. map.get jobs k ≡ o → job_of k (waiting_of jobs) ≡ option_map (λ (x : Turn × T). (x.0.0, x.1)) o) [
      | None ↦ λ none. none_found k (map.entries (by_turn jobs))
          (all_of turns_total exact_turns (λ u x. k ≢ x.0) (by_turn jobs) (λ u x there same. let was = is.turns.from u x.0 x.1 there in let gone = ap (map.get jobs) (sym same) ∙ none in cc))
      | Some x ↦ λ at. ap (λ es. job_of k (list_map as_seen es)) (among k x.0 x.1 at) ∙ put_found k x.0 x.1 (others k x.0 x.1 at) (other_keys k x.0 x.1 at)
    ] refl

    -- how many wait
    pub len_is : length (waiting_of jobs) ≡ map.len jobs
    len_is = length-map (map.entries (by_turn jobs)) as_seen ∙ sym (map.len-entries (by_turn jobs)) ∙ is.len

    pub none_wait : map.len jobs ≡ 0 → waiting_of jobs ≡ []
    none_wait none = nil_from_length (waiting_of jobs) (len_is ∙ none)

  pub none_in_order : (jobs : Timed T) (count : ℕ) → jobs ≡ map.empty → InOrder jobs count
  none_in_order jobs count is = (rw is (grind (arith, in_order {T = T} map.empty count map.empty, map.get-empty, map.len-empty)))
