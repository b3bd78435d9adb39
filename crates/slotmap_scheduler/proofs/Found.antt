-- What a handle finds among the jobs that wait, and how many they are, after a change of these.
use Rattle.std.proofs.Common.{◌+◌, ◌∷◌, ◌≡◌}
use Rattle.slotmap_scheduler.proofs.Common.{Bool, IsOnce, Key, None, Some, Waiting, [], arith, cond, eq_by_cmp, exact_keys, false, filter, in_turn, itself, job_of, key_cmp, keys_total, length}
use Rattle.slotmap_scheduler.proofs.Common.{option_map, refl, tied, with_job, without, ℕ}

module _ {T : Type 0} (k : Key) where
  module _ (q : Key) where
    -- k has no job, another one, or one more job, behind all of its time
    pub found_without : (ws : Waiting T) → job_of q (without k ws) ≡ cond (eq_by_cmp key_cmp q k) None (job_of q ws)
    found_without [] = grind arith
    found_without (e ∷ ws) =
        grind (arith, found_without ws, tied keys_total exact_keys k e.0, tied keys_total exact_keys q e.0, tied keys_total exact_keys q k, itself keys_total exact_keys k)

    pub found_written : (w : T) (ws : Waiting T) → job_of q (with_job k w ws)
        ≡ cond (eq_by_cmp key_cmp q k) (option_map {U = ℕ × T} (λ (due : ℕ × T). (due.0, w)) (job_of q ws)) (job_of q ws)
    found_written w [] = grind arith
    found_written w (e ∷ ws) =
        grind (arith, found_written w ws, tied keys_total exact_keys k e.0, tied keys_total exact_keys q e.0, tied keys_total exact_keys q k, itself keys_total exact_keys k)

    pub found_in_turn : (x : ℕ × T) (ws : Waiting T) → job_of k ws ≡ None → job_of q (in_turn (k, x) ws) ≡ cond (eq_by_cmp key_cmp q k) (Some x) (job_of q ws)
    found_in_turn x [] none = refl
    found_in_turn x (e ∷ ws) none =
        let apart : eq_by_cmp key_cmp k e.0 ≡ false = grind arith in let rest = found_in_turn x ws (grind arith) in
        grind (arith, rest, tied keys_total exact_keys q k)

  pub once_without : (ws : Waiting T) → IsOnce ws → IsOnce (without k ws)
  once_without [] once = tt
  once_without (e ∷ ws) once = grind (arith, found_without e.0 ws, once_without ws once.1)

  pub without_none : (ws : Waiting T) → job_of k ws ≡ None → without k ws ≡ ws
  without_none [] none = refl
  without_none (e ∷ ws) none = grind (arith, without_none ws)

  -- a job among others, which are counted without it
  pub count_without : (test : Key × (ℕ × T) → Bool) (ws : Waiting T) (x : ℕ × T) → IsOnce ws → job_of k ws ≡ Some x
      → length (filter test ws) ≡ cond (test (k, x)) 1 0 + length (filter test (without k ws))
  count_without test [] x once there = absurd (cc)
  count_without test (e ∷ ws) x once there = grind (arith, tied keys_total exact_keys k e.0, itself keys_total exact_keys k, without_none ws, count_without test ws x once.1)

  pub len_without : (ws : Waiting T) (x : ℕ × T) → IsOnce ws → job_of k ws ≡ Some x → length ws ≡ 1 + length (without k ws)
  len_without [] x once there = absurd (cc)
  len_without (e ∷ ws) x once there = grind (arith, tied keys_total exact_keys k e.0, itself keys_total exact_keys k, without_none ws, len_without ws x once.1)

pub len_in_turn : {T : Type 0} (x : Key × (ℕ × T)) (ws : Waiting T) → length (in_turn x ws) ≡ length ws + 1
len_in_turn x [] = refl
len_in_turn x (e ∷ ws) = grind (arith, len_in_turn x ws)
