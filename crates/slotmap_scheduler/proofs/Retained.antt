-- What callers cite of `retain`: which jobs are left, by what each call of the closure does.
use Rattle.std.proofs.Common.{◌∷◌, ◌≡◌}
use Rattle.slotmap_scheduler.proofs.Common.{AllByRecursion, Bool, Called, CallsForJob, FoldsTo, IsOnce, JobVisit, Key, List, Mut, MutBor, None, Option, RetainsJobs, Some, Waiting, [], after_visit}
use Rattle.slotmap_scheduler.proofs.Common.{after_visits, ap, arith, cond, eq_by_cmp, exact_keys, filter, filter_map, itself, job_of, jobs_seen, key_cmp, keys_total, option_and_then, option_map, refl}
use Rattle.slotmap_scheduler.proofs.Common.{sym, tied, ℕ, ◌∙◌}

module _ {T : Type 0} (left : Key → ℕ → T → Option T) where
  -- a job as the calls leave it, or none
  abbrev pub left_of : Key × (ℕ × T) → Option (Key × (ℕ × T))
  left_of e = option_map (λ job. (e.0, (e.1.0, job))) (left e.0 e.1.0 e.1.1)

module _ {K T : Type 0} (data_of : K → Key) where
  -- what a call leaves of a job, and what all calls do
  abbrev left_by : JobVisit K T → Key × (ℕ × T) → Option (Key × (ℕ × T))
  left_by x e = cond (eq_by_cmp key_cmp (data_of x.handle) e.0) (cond x.stays (Some (e.0, (e.1.0, x.after))) None) (Some e)

  abbrev left_by_all : List (JobVisit K T) → Key × (ℕ × T) → Option (Key × (ℕ × T))
  left_by_all [] e = Some e
  left_by_all (x ∷ xs) e = option_and_then (left_by_all xs) (left_by x e)

  module _ (x : JobVisit K T) where
    none_after : (q : Key) (ws : Waiting T) → job_of q ws ≡ None → job_of q (after_visit data_of x ws) ≡ None
    none_after q [] none = grind arith
    none_after q (e ∷ ws) none = grind (arith, none_after q ws)

    once_after : (ws : Waiting T) → IsOnce ws → IsOnce (after_visit data_of x ws)
    once_after [] once = grind arith
    once_after (e ∷ ws) once = grind (arith, none_after e.0 ws once.0, once_after ws once.1)

    module _ (h : Key × (ℕ × T) → Option (Key × (ℕ × T))) where
      none_there : (ws : Waiting T) → job_of (data_of x.handle) ws ≡ None → filter_map (λ e. option_and_then h (left_by x e)) ws ≡ filter_map h ws
      none_there [] none = refl
      none_there (e ∷ ws) none = grind (arith, none_there ws)

      after_one : (ws : Waiting T) → IsOnce ws → filter_map h (after_visit data_of x ws) ≡ filter_map (λ e. option_and_then h (left_by x e)) ws
      after_one [] once = grind arith
      after_one (e ∷ ws) once = grind (arith, after_one ws once.1, none_there ws, once.0, tied keys_total exact_keys (data_of x.handle) e.0)

  after_all : (xs : List (JobVisit K T)) (ws : Waiting T) → IsOnce ws → after_visits data_of xs ws ≡ filter_map (left_by_all xs) ws
  after_all [] [] once = refl
  after_all [] (e ∷ ws) once = ap (λ l. e ∷ l) (after_all [] ws once.1)
  after_all (x ∷ xs) ws once = after_all xs (after_visit data_of x ws) (once_after x ws once) ∙ after_one x (left_by_all xs) ws once

  unseen : (xs : List (JobVisit K T)) (e : Key × (ℕ × T)) → job_of e.0 (jobs_seen data_of xs) ≡ None → left_by_all xs e ≡ Some e
  unseen [] e none = refl
  unseen (x ∷ xs) e none = grind (arith, unseen xs e, tied keys_total exact_keys (data_of x.handle) e.0, itself keys_total exact_keys e.0)

  module _ (left : Key → ℕ → T → Option T) where
    -- a call leaves its job as `left` says
    abbrev LeavesBy : JobVisit K T → Type 0
    LeavesBy x = left (data_of x.handle) x.time x.before ≡ cond x.stays (Some x.after) None

    seen : (xs : List (JobVisit K T)) → AllByRecursion LeavesBy xs → IsOnce (jobs_seen data_of xs) → (e : Key × (ℕ × T)) → job_of e.0 (jobs_seen data_of xs) ≡ Some e.1
        → left_by_all xs e ≡ left_of left e
    seen [] leaves once e there = absurd (cc)
    seen (x ∷ xs) leaves once e there =
        let tie = tied keys_total exact_keys (data_of x.handle) e.0 in
        grind (arith, seen xs leaves.1 once.1 e, unseen xs, once.0, leaves.0, tie, tied keys_total exact_keys e.0 (data_of x.handle), itself keys_total exact_keys e.0)

    -- where each job was seen, once
    all_seen : (xs : List (JobVisit K T)) → AllByRecursion LeavesBy xs → IsOnce (jobs_seen data_of xs) → (ws : Waiting T) → IsOnce ws
        → ((k : Key) (due : ℕ × T) → job_of k ws ≡ Some due → job_of k (jobs_seen data_of xs) ≡ Some due) → filter_map (left_by_all xs) ws ≡ filter_map (left_of left) ws
    all_seen xs leaves once [] once_ws all = refl
    all_seen xs leaves once (e ∷ ws) once_ws all =
        let rest = all_seen xs leaves once ws once_ws.1 (λ k due there. all k due (grind (arith, once_ws.0, tied keys_total exact_keys k e.0))) in
        grind (arith, seen xs leaves once e, all e.0 e.1, itself keys_total exact_keys e.0)

-- what `retain` leaves, in the same order: of each job what a call for it leaves, as `left` says, where the calls keep a fact of the closure
module _ {F K T : Type 0} {g : Mut F (K × (ℕ × (MutBor T × Unit {0}))) (Bool × (MutBor T × Unit {0}))} {data_of : K → Key} (left : Key → ℕ → T → Option T) (Holds : F → Type 0)
    (each : (f f' : F) (handle : K) (time : ℕ) (shown after : MutBor T) (stays : Bool) → Holds f → Called g f (handle, (time, (shown, tt))) (stays, (after, tt)) f'
    → Holds f' × (left (data_of handle) time shown.now ≡ cond stays (Some after.now) None)) where
  leave_all : (f last : F) (xs : List (JobVisit K T)) → Holds f → FoldsTo (CallsForJob g) f xs last → AllByRecursion (LeavesBy data_of left) xs
  leave_all f last [] holds calls = tt
  leave_all f last (x ∷ xs) holds calls =
      let call = calls.1 in
      let one = each f calls.0 x.handle x.time call.shown call.left x.stays holds call.called in
      (ap (left (data_of x.handle) x.time) (sym call.shows) ∙ one.1 ∙ ap (λ w. cond x.stays (Some w) None) call.leaves, leave_all calls.0 last xs one.0 calls.2)

  pub retained_jobs : {f : F} {old new : Waiting T} → Holds f → IsOnce old → RetainsJobs g data_of f old new → new ≡ filter_map (left_of left) old
  retained_jobs {f} {old} holds once ran = grind (arith, after_all data_of ran.visits old once, all_seen, leave_all f ran.last ran.visits holds ran.calls)

-- the same where no call writes: the jobs that pass a test
module _ {F K T : Type 0} {g : Mut F (K × (ℕ × (MutBor T × Unit {0}))) (Bool × (MutBor T × Unit {0}))} {data_of : K → Key} (test : Key → ℕ → T → Bool) (Holds : F → Type 0)
    (each : (f f' : F) (handle : K) (time : ℕ) (shown after : MutBor T) (stays : Bool) → Holds f → Called g f (handle, (time, (shown, tt))) (stays, (after, tt)) f'
    → Holds f' × (stays ≡ test (data_of handle) time shown.now) × (after.now ≡ shown.now)) where
  abbrev if_passes : Key → ℕ → T → Option T
  if_passes k time job = cond (test k time job) (Some job) None

  passing : (ws : Waiting T) → filter_map (left_of if_passes) ws ≡ filter (λ e. test e.0 e.1.0 e.1.1) ws
  passing [] = refl
  passing (e ∷ ws) = grind (arith, passing ws)

  pub retained_where : {f : F} {old new : Waiting T} → Holds f → IsOnce old → RetainsJobs g data_of f old new → new ≡ filter (λ e. test e.0 e.1.0 e.1.1) old
  retained_where {f} {old} {new} holds once ran =
      retained_jobs if_passes Holds
      (λ f f' handle time shown after stays holds call. let one = each f f' handle time shown after stays holds call in
      (one.0, ap (λ b. cond b (Some shown.now) None) (sym one.1) ∙ ap (λ w. cond stays (Some w) None) (sym one.2)))
      holds once ran ∙ passing old
