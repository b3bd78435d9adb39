-- After any other call than an insert on a content that a state fits, the machine's next state fits the new content.
use Rattle.std.specs.FinSet as set
use Rattle.std.proofs.Common.{◌≡◌, ◌+◌, ◌≤◌, ℕ, Bool, inl, arith}
use Rattle.slotmap_core.proofs.Common.{Stands, after_reattach, replaced_stands, detached_stands, reattached_stands, removed_stands, removed_vacant, replaced_places, detached_places, reattached_places}
use Rattle.slotmap_core.proofs.Common.{Content, after_remove, after_replace, after_reserve, after_detach, common_steps, same_vacant, kept_stands, left_stands, left_vacant, kept_places, removed_places}
use Rattle.slotmap_core.proofs.Common.{Key, IsContent, IsLive, places, Keeps, Removes, Replaces, Leaves, Detaches, Reattaches, State, retired, Fits, Lasts, keys_total, exact_keys, Vacates, in_retired}
use Rattle.slotmap_run.proofs.MapChanges.{changes}

-- the state after one that fits old fits new; and if no slot is retired in n + 1 calls from old, none is in n calls from new
pub record Moves {V : Type 0} (after : State V → State V) (old new : Content V) : Type 0 where
  pub fits : (s : State V) → Fits s old → Fits (after s) new
  pub lasts : (n : ℕ) → Lasts (n + 1) old → Lasts n new

-- t has the parts of new, and no more keys are issued than in s
record Has {V : Type 0} (s t : State V) (new : Content V) : Type 0 where
  live : t.live ≡ new.live
  detached : t.detached ≡ new.detached
  retired : retired t ≡ new.retired
  issued : t.issued ≡ s.issued
  peak : t.peak ≡ s.peak
  promised : t.promised ≤ new.room

module _ {V : Type 0} (reuses : Bool) (old new : Content V) (ok : IsContent reuses old) where
  -- no more keys are live or detached
  module _ (stood : (q : Key) → Stands new q → Stands old q) (vacant : Vacates old new) (same : places new ≡ places old) where
    less : (after : State V → State V) → ((n : ℕ) → Lasts (n + 1) old → new.retired ≡ old.retired) → ((s : State V) → Fits s old → Has s (after s) new) → Moves after old new
    less after unretired has = grind arith

  module _ (k : Keeps old new) where
    pub keeps : Moves (λ s. s) old new
    keeps = less (kept_stands old new k) (same_vacant old new k.next) (kept_places reuses old new ok k) (λ s. s) (λ n lasts. k.retired) (λ s fits. grind arith)

    pub promises : (n : ℕ) → n ≤ new.room → Moves (λ s. after_reserve s n) old new
    promises n h = less (kept_stands old new k) (same_vacant old new k.next) (kept_places reuses old new ok k) (λ s. after_reserve s n) (λ n lasts. k.retired) (λ s fits. grind arith)

  pub replaces : (k : Key) (v : V) → IsLive old k → Replaces old k v new → Moves (λ s. after_replace s k v) old new
  replaces k v is_live r = less (replaced_stands old new k v is_live r) (same_vacant old new r.next)
      (replaced_places reuses old new ok k v is_live r) (λ s. after_replace s k v) (λ n lasts. r.retired)
      (λ s fits. let same = set.same_set keys_total exact_keys (retired (after_replace s k v)) (retired s)
      (λ q. grind (arith, in_retired (after_replace s k v) q, in_retired s q, changes, fits.live)) in grind arith)

  pub detaches : (k : Key) → IsLive old k → Detaches old k new → Moves (λ s. after_detach s k) old new
  detaches k is_live r = less (detached_stands old new k is_live r) (same_vacant old new r.next) (detached_places reuses old new ok k is_live r) (λ s. after_detach s k) (λ n lasts. r.retired)
      (λ s fits. let same = set.same_set keys_total exact_keys (retired (after_detach s k)) (retired s)
      (λ q. grind (arith, in_retired (after_detach s k) q, in_retired s q, changes, fits.live)) in grind arith)

  pub reattaches : (k : Key) (v : V) → Reattaches old k v new → Moves (λ s. after_reattach s k v) old new
  reattaches k v r = less (reattached_stands old new k v r) (same_vacant old new r.next) (reattached_places reuses old new ok k v r) (λ s. after_reattach s k v) (λ n lasts. r.retired)
      (λ s fits. let same = set.same_set keys_total exact_keys (retired (after_reattach s k v)) (retired s)
      (λ q. grind (arith, in_retired (after_reattach s k v) q, in_retired s q, changes, fits.detached, r.was_detached)) in grind arith)

  pub removes : (k : Key) → IsLive old k → Removes old k new → Moves (λ s. after_remove s k) old new
  removes k is_live r = less (removed_stands old new k r) (removed_vacant old new k is_live r) (removed_places reuses old new ok k is_live r) (λ s. after_remove s k)
      (λ n lasts. grind (arith, common_steps, r.retired, lasts.standing k (inl is_live)))
      (λ s fits. let was_issued = fits.issued k (inl is_live) in let apart = ok.not_live_and_detached k is_live in
      let same = set.same_set keys_total exact_keys (retired (after_remove s k)) new.retired
      (λ q. grind (arith, in_retired (after_remove s k) q, in_retired s q, fits.retired, r.retired, changes, was_issued, apart, fits.live, fits.detached)) in
      grind arith)

  pub leaves : Leaves old new → Moves (λ s. record s { live = new.live }) old new
  leaves l = less (left_stands old new l) (left_vacant old new l) l.same_places (λ s. record s { live = new.live })
      (λ n lasts. set.same_set keys_total exact_keys new.retired old.retired (λ q. grind (arith, common_steps, l.retired q, lasts.standing q)))
      (λ s fits. let same = set.same_set keys_total exact_keys (retired (record s { live = new.live })) new.retired
      (λ q. grind (arith, in_retired (record s { live = new.live }) q, in_retired s q, fits.retired, fits.live, fits.detached, l.retired q, l.no_more q, fits.issued q, ok.not_live_and_detached q)) in
      grind arith)
