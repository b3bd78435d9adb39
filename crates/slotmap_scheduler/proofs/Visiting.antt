-- A loop that visits all jobs, by ascending index of their handles, and keeps or removes each.
use Rattle.std.proofs.Common.{if◌then◌else◌, ◌++◌, ◌+◌, ◌<◌, ◌∷◌, ◌≡◌, ◌≢◌, ◌≤◌}
use Rattle.slotmap_scheduler.proofs.Common.{same_or_other, cond, eq_by_cmp, key_cmp, map_push, Bool, CallableOnJobs, Called, CallsForJob, FoldsTo, FoldsTo-push, IsOnce, IsSpent, JobVisit, KeepsSpent}
use Rattle.slotmap_scheduler.proofs.Common.{Key, Leaves, List, Mut, MutBor, None, RetainsJobs, Schedule, Some, Takes, Waiting, [], after_visit, after_visits, always_mut, ap, arith, exact_keys, false}
use Rattle.slotmap_scheduler.proofs.Common.{is_some, itself, job_of, jobs_seen, keys_total, leaves_none, length, mut_next, refl, subst, sym, tied, true, with_job, without, ℕ, ◌∙◌}
use Rattle.slotmap_scheduler.proofs.Found.{found_without, found_written, len_without, once_without}
use Rattle.std.specs.FinMap.Entries.{find-append}
use Rattle.std.proofs.lemmas.List.Sums.{fold-append}
use Rattle.slotmap_scheduler.proofs.TakingOut.{HasFewer, one_fewer, same_fewer, still_fewer}

-- one more job at the end
once_pushed : {T : Type 0} (e : Key × (ℕ × T)) (ws : Waiting T) → IsOnce ws → job_of e.0 ws ≡ None → IsOnce (ws ++ e ∷ [])
once_pushed e [] once none = (refl, tt)
once_pushed e (x ∷ ws) once none =
    let apart : eq_by_cmp key_cmp x.0 e.0 ≡ false = grind (arith, tied keys_total exact_keys x.0 e.0, itself keys_total exact_keys e.0) in
    let absent : job_of e.0 ws ≡ None = grind arith in
    (find-append key_cmp keys_total ws e.0 e.1 x.0 absent ∙ rw apart once.0, once_pushed e ws once.1 absent)

-- a job that is written and then goes
written_without : {T : Type 0} (k : Key) (w : T) (ws : Waiting T) → without k (with_job k w ws) ≡ without k ws
written_without k w [] = refl
written_without k w (e ∷ ws) = grind (arith, written_without k w ws)

-- as many jobs, where each handle finds the same
as_many_found : {T : Type 0} (xs ys : Waiting T) → IsOnce xs → IsOnce ys → ((k : Key) → job_of k ys ≡ job_of k xs) → length ys ≡ length xs
as_many_found [] [] once_a once_b same = refl
as_many_found [] (y ∷ ys) once_a once_b same = absurd (grind (arith, itself keys_total exact_keys y.0, same y.0))
as_many_found (e ∷ xs) ys once_a once_b same =
    let there : job_of e.0 ys ≡ Some e.1 = same e.0 ∙ grind (arith, itself keys_total exact_keys e.0) in
    let rest = as_many_found xs (without e.0 ys) once_a.1 (once_without e.0 ys once_b) (λ k. grind (arith, same k, once_a.0, found_without e.0 k ys, tied keys_total exact_keys k e.0)) in
    omega (arith, len_without e.0 ys e.1 once_b there)

module _ {F K T : Type 0} (g : Mut F (K × (ℕ × (MutBor T × Unit {0}))) (Bool × (MutBor T × Unit {0}))) (data_of : K → Key) where
  -- the jobs whose handles have a smaller index were visited, and the others are ahead
  pub record Visiting (old : Schedule T) (f : F) (now : Schedule T) (floor : ℕ) (f' : F) : Type 0 where
    pub visits : List (JobVisit K T)
    pub calls : FoldsTo (CallsForJob g) f visits f'
    pub stay : now.waiting ≡ after_visits data_of visits old.waiting
    pub once : IsOnce (jobs_seen data_of visits)
    pub below : (k : Key) → k.index < floor → job_of k (jobs_seen data_of visits) ≡ job_of k old.waiting
    pub unseen : (k : Key) → floor ≤ k.index → job_of k (jobs_seen data_of visits) ≡ None
    pub ahead : (k : Key) → floor ≤ k.index → job_of k now.waiting ≡ job_of k old.waiting
    pub fewer : HasFewer old now

  pub visiting_start : (old : Schedule T) (f : F) → Visiting old f old 0 f
  visiting_start old f = grind (arith, same_fewer old)

module _ {F K T : Type 0} {g : Mut F (K × (ℕ × (MutBor T × Unit {0}))) (Bool × (MutBor T × Unit {0}))} {data_of : K → Key}
    {old : Schedule T} {f : F} {now : Schedule T} {floor : ℕ} {f' : F} (r : Visiting g data_of old f now floor f') where
  pub visiting_end : IsOnce old.waiting → ((q : Key) → is_some (job_of q now.waiting) ≡ true → q.index < floor) → RetainsJobs g data_of f old.waiting now.waiting
  visiting_end once none =
      let same : (k : Key) → job_of k (jobs_seen data_of r.visits) ≡ job_of k old.waiting = λ k. grind (arith, r.below k, r.unseen k, r.ahead k, none k) in
      grind (arith, r.calls, r.once, r.stay, same, as_many_found old.waiting (jobs_seen data_of r.visits) once r.once same)

  -- the job that is shown is the one that waits
  pub shown_there : (k : Key) (time : ℕ) (shown : T) → ((job : T) × (job_of k now.waiting ≡ Some (time, job)))
      → ((t : ℕ) (job : T) → job_of k now.waiting ≡ Some (t, job) → shown ≡ job) → job_of k now.waiting ≡ Some (time, shown)
  shown_there k time shown there shows = there.1 ∙ ap (λ job. Some (time, job)) (sym (shows time there.0 there.1))

  -- it is left where the closure wrote to it
  pub written_waits : (k : Key) (due : ℕ × T) → job_of k now.waiting ≡ Some due → (w : T) → is_some (job_of k (with_job k w now.waiting)) ≡ true
  written_waits k due at w = grind (arith, found_written k k w now.waiting, itself keys_total exact_keys k)

  -- the next one
  module _ (handle : K) (time : ℕ) (shown : MutBor T) (at : job_of (data_of handle) now.waiting ≡ Some (time, shown.now)) (behind : floor ≤ (data_of handle).index) where
    abbrev k : Key
    k = data_of handle

    -- the closure may be called for it
    pub visiting_takes : CallableOnJobs g data_of f old.waiting → Takes g f' (handle, (time, (shown, tt)))
    visiting_takes callable = callable.at r.visits f' handle time shown r.calls
        (record { there = λ q due found. grind (arith, r.below q, r.unseen q); once = r.once }) (r.unseen k behind) (sym (r.ahead k behind) ∙ at)

    module _ {f'' : F} {stays : Bool} {after : MutBor T} (called : Called g f' (handle, (time, (shown, tt))) (stays, (after, tt)) f'')
        (least : (q : Key) → is_some (job_of q now.waiting) ≡ true → floor ≤ q.index → q.index ≤ k.index → q ≡ k) where
      abbrev visit : JobVisit K T
      visit = record { handle = handle; time = time; before = shown.now; after = after.now; stays = stays }

      seen_now : (q : Key) → job_of q (jobs_seen data_of (r.visits ++ visit ∷ [])) ≡ cond (eq_by_cmp key_cmp q k) (Some (time, shown.now)) (job_of q (jobs_seen data_of r.visits))
      seen_now q = ap (job_of q) (map_push _ r.visits visit) ∙ find-append key_cmp keys_total (jobs_seen data_of r.visits) k (time, shown.now) q (r.unseen k behind)

      step : (new : Schedule T) → new.waiting ≡ after_visit data_of visit now.waiting → ((q : Key) → q ≢ k → job_of q new.waiting ≡ job_of q now.waiting) → HasFewer now new
          → Visiting g data_of old f new (k.index + 1) f''
      step new stay others fewer = record {
        visits = r.visits ++ visit ∷ [];
        calls = FoldsTo-push (CallsForJob g) f r.visits f' visit f'' r.calls (record { shown = shown; shows = refl; left = after; leaves = refl; called = called });
        stay = stay ∙ ap (after_visit data_of visit) r.stay ∙ sym (fold-append _ old.waiting r.visits (visit ∷ []));
        once = rw (map_push _ r.visits visit) (once_pushed (k, (time, shown.now)) (jobs_seen data_of r.visits) r.once (r.unseen k behind));
        below = λ q low. grind (arith, seen_now q, at, tied keys_total exact_keys q k, r.below q, r.unseen q, r.ahead q, r.ahead k, least q);
        unseen = λ q from. grind (arith, seen_now q, tied keys_total exact_keys q k, r.unseen q);
        ahead = λ q from. grind (arith, same_or_other q k, others q, r.ahead q);
        fewer = still_fewer r.fewer fewer;
      }

      pub visiting_kept : stays ≡ true → Visiting g data_of old f (record now { waiting = with_job k after.now now.waiting }) (k.index + 1) f''
      visiting_kept keep =
          let others : (q : Key) → q ≢ k → job_of q (with_job k after.now now.waiting) ≡ job_of q now.waiting =
          λ q other. grind (arith, found_written k q after.now now.waiting, tied keys_total exact_keys q k) in
          let there : (q : Key) → is_some (job_of q (with_job k after.now now.waiting)) ≡ is_some (job_of q now.waiting) = λ q. grind (arith, found_written k q after.now now.waiting) in
          grind (arith, step, others, there, leaves_none now.handles)

      pub visiting_dropped : {new : Schedule T} → stays ≡ false → new.waiting ≡ without k (with_job k after.now now.waiting) → IsSpent new.handles k → new.turns ≡ now.turns
          → new.handles.capacity ≡ now.handles.capacity → Leaves now.handles new.handles → KeepsSpent now.handles new.handles → Visiting g data_of old f new (k.index + 1) f''
      visiting_dropped {new} drop removed spent turns capacity leaves keeps =
          let now_is = removed ∙ written_without k after.now now.waiting in
          let others : (q : Key) → q ≢ k → job_of q new.waiting ≡ job_of q now.waiting = λ q other. grind (arith, now_is, found_without k q now.waiting, tied keys_total exact_keys q k) in
          step new (now_is ∙ sym (ap (λ b. if b then with_job k after.now now.waiting else without k now.waiting) drop)) others (one_fewer now new turns capacity leaves keeps k spent others)

-- a closure that can always be called
module _ {F K T : Type 0} (g : Mut F (K × (ℕ × (MutBor T × Unit {0}))) (Bool × (MutBor T × Unit {0}))) (data_of : K → Key) where
  still_callable : (f : F) (xs : List (JobVisit K T)) (f' : F) → always_mut g f → FoldsTo (CallsForJob g) f xs f' → always_mut g f'
  still_callable f [] f' always run = subst (always_mut g) run always
  still_callable f (x ∷ xs) f' always run = still_callable run.0 xs f' (mut_next g f _ _ run.0 run.0 run.1.called refl always) run.2

  pub callable_on_jobs : (f : F) (jobs : Waiting T) → always_mut g f → CallableOnJobs g data_of f jobs
  callable_on_jobs f jobs always = record { at = λ visits f' handle time shown calls sees new found. ((still_callable f visits f' always calls).at ((handle, (time, (shown, tt))) ∷ [])).0 }
