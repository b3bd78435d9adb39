-- A loop that takes out the jobs that are due.
use Rattle.std.proofs.Common.{◌++◌, ◌+◌, ◌∷◌, ◌≡◌, ◌≤◌}
use Rattle.slotmap_scheduler.proofs.Common.{All, All-nil, All-push, Due, IsByTime, Key, List, Schedule, TakesDue, Vec, Waiting, [], ap, append-nil, append_assoc, arith, due_at, false, length}
use Rattle.slotmap_scheduler.proofs.Common.{map_push, nat_lt, nat_tests, refl, sym, vec_capacity, vec_len, ℕ, ◌∙◌}
use Rattle.slotmap_scheduler.proofs.TakingOut.{HasFewer, same_fewer, still_fewer}
use Rattle.slotmap_scheduler.proofs.Waits.{sorted_first}

module _ {T : Type 0} (now : ℕ) where
  abbrev IsDue : Key × (ℕ × T) → Type 0
  IsDue e = e.1.0 ≤ now

  not_later : (e : Key × (ℕ × T)) → e.1.0 ≤ now → nat_lt now e.1.0 ≡ false
  not_later e le = grind (arith, nat_tests)

  -- where the first job is due, the others that are come behind it
  pub first_due : (e : Key × (ℕ × T)) (es ws : Waiting T) → e.1.0 ≤ now → ws ≡ e ∷ es → length (due_at now ws) ≡ length (due_at now es) + 1
  first_due e es ws le is = grind (arith, not_later e le)

module _ {K T Z : Type 0} (data_of : K → Key) (now : ℕ) where
  -- some jobs were taken out, and put into the vector
  pub record Taking (old : Schedule T) (start : Vec (K × T) Z) (s : Schedule T) (due : Vec (K × T) Z) : Type 0 where
    pub first : Waiting T
    pub taken : List (K × T)
    pub waited : old.waiting ≡ first ++ s.waiting
    pub all_due : All (λ e. e.1.0 ≤ now) first
    pub returned : Due data_of first taken
    pub added : due.items ≡ start.items ++ taken
    -- there is room for the others
    pub room : vec_len due + length (due_at now s.waiting) ≤ vec_capacity due
    pub fewer : HasFewer old s

  pub taking_start : (old : Schedule T) (start grew : Vec (K × T) Z) → grew.items ≡ start.items
      → vec_len grew + length (due_at now old.waiting) ≤ vec_capacity grew → Taking old start old grew
  taking_start old start grew same room =
      record { first = []; taken = []; waited = refl; all_due = All-nil _; returned = refl; added = same ∙ sym (append-nil start.items); room = room; fewer = same_fewer old }

  -- one more job
  pub taking_step : (old : Schedule T) (start : Vec (K × T) Z) (s s' : Schedule T) (due due' : Vec (K × T) Z) (job : K × T) (time : ℕ) → Taking old start s due → time ≤ now
      → s.waiting ≡ (data_of job.0, (time, job.1)) ∷ s'.waiting → HasFewer s s' → due'.items ≡ due.items ++ job ∷ [] → vec_len due' ≡ vec_len due + 1
      → vec_capacity due' ≡ vec_capacity due
      → Taking old start s' due'
  taking_step old start s s' due due' job time t le waits fewer items len capacity =
      let e : Key × (ℕ × T) = (data_of job.0, (time, job.1)) in
      record {
        first = t.first ++ e ∷ [];
        taken = t.taken ++ job ∷ [];
        waited = t.waited ∙ ap (λ l. t.first ++ l) waits ∙ sym (append_assoc t.first (e ∷ []) s'.waiting);
        all_due = All-push (λ (x : Key × (ℕ × T)). x.1.0 ≤ now) t.first e t.all_due le;
        returned = map_push (λ (x : Key × (ℕ × T)). (x.0, x.1.1)) t.first e
            ∙ ap (λ l. l ++ (data_of job.0, job.1) ∷ []) t.returned ∙ sym (map_push (λ (x : K × T). (data_of x.0, x.1)) t.taken job);
        added = items ∙ ap (λ l. l ++ job ∷ []) t.added ∙ append_assoc start.items t.taken (job ∷ []);
        room = (let was = t.room in let one = first_due now e s'.waiting s.waiting le waits in omega arith);
        fewer = still_fewer t.fewer fewer;
      }

  pub taking_end : (old : Schedule T) (start : Vec (K × T) Z) (s : Schedule T) (due : Vec (K × T) Z) → Taking old start s due → IsByTime old.waiting
      → (all : List (K × T)) → all ≡ due.items → TakesDue data_of now old.waiting start.items all s.waiting
  taking_end old start s due t sorted all same = grind (arith, t, sorted_first t.first s.waiting, same, sorted)

-- nothing was taken out
pub takes_none : {K T : Type 0} (data_of : K → Key) (now : ℕ) (ws : Waiting T) (items all : List (K × T)) → all ≡ items → TakesDue data_of now ws items all ws
takes_none data_of now ws items all same = record { first = []; taken = []; waited = refl; due = All-nil _; sorted = tt; returned = refl; added = same ∙ sym (append-nil items) }
