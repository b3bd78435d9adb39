-- No key's index is above the most keys that were live or detached at one moment, by the replies, if no key is ever retired.
use Rattle.std.proofs.Common.{◌≡◌, ◌+◌, ◌-◌, ◌≤◌, ◌∷◌}
use Rattle.std.specs.FinMap as map
use Rattle.std.specs.FinSet as set
use Rattle.slotmap_run.proofs.Common.{list_map, IndexStaysSmall, DetachCommand, Reply}
use Rattle.slotmap_core.proofs.Common.{Key, key_cmp, State, RunGiven, DetachStep, Run, Unretiring, empty_state, retired, keys_total, ℕ, max, Some, None, true, List, [], ap, ◌∙◌, arith}
use Rattle.slotmap_run.proofs.SetCounts.{live_keys, contains-live_keys, len-live_keys, len-subset}
use Rattle.slotmap_run.proofs.{Laws.none_retired_at_first, RemovedKeys.StepOf}
use Rattle.slotmap_core.specs.declared.commands.Command.TheVariants as command
use Rattle.slotmap_core.specs.declared.commands.DetachCommand.TheVariants as detaching
use Rattle.slotmap_core.specs.declared.commands.Reply.TheVariants as reply

-- the numbers of `IndexStaysSmall`
pub record Tally : Type 0 where
  pub live : ℕ
  pub detached : ℕ
  pub most : ℕ

-- the numbers after this command with this reply
abbrev tallied : {K V R E : Type 0} → DetachCommand K V → Reply K V R E → Tally → Tally
tallied (detaching.Plain c) (reply.Key k) n = record { live = n.live + 1; detached = n.detached; most = max n.most (n.live + n.detached + 1) }
tallied (detaching.Plain (command.Remove k)) (reply.Taken (Some v)) n = record n { live = n.live - 1 }
tallied (detaching.Detach k) (reply.Taken (Some v)) n = record n { live = n.live - 1; detached = n.detached + 1 }
tallied (detaching.Reattach k v) reply.Done n = record n { live = n.live + 1; detached = n.detached - 1 }
tallied (detaching.Plain command.Clear) reply.Done n = record n { live = 0 }
tallied (detaching.Plain command.Drain) (reply.Drained pairs) n = record n { live = 0 }
tallied (detaching.Plain command.Len) (reply.Len m) n = record n { live = m }
tallied _ _ n = n

-- the state has no more keys than these, and no key is retired
pub record IsTallied {V : Type 0} (s : State V) (n : Tally) : Type 0 where
  pub live : map.len s.live ≤ n.live
  pub detached : set.len s.detached ≤ n.detached
  pub peak : s.peak ≤ n.most
  pub unretired : set.len (retired s) ≡ 0

module _ {V : Type 0} (m : map.FinMap key_cmp V) where
  len-insert : (k : Key) (v : V) → map.len (map.insert m k v) ≤ map.len m + 1
  len-insert k v = grind (arith, map.len-insert keys_total m k v)

  len-replace : (k : Key) (v : V) → map.contains_key m k ≡ true → map.len (map.insert m k v) ≡ map.len m
  len-replace k v h = grind (arith, map.len-insert keys_total m k v)

  len-remove : (k : Key) → map.contains_key m k ≡ true → map.len (map.remove m k) ≡ map.len m - 1
  len-remove k h = grind (arith, map.len-remove keys_total m k)

-- a map with no other keys is no longer
len-part : {V : Type 0} (m part : map.FinMap key_cmp V) → ((q : Key) → map.get m q ≡ None → map.get part q ≡ None) → map.len part ≤ map.len m
len-part m part no_more = grind (arith, len-live_keys m, len-live_keys part, len-subset (live_keys part) (live_keys m), contains-live_keys part, contains-live_keys m)

module _ (s : set.FinSet key_cmp) (k : Key) where
  len-add : set.len (set.insert s k) ≤ set.len s + 1
  len-add = grind (arith, set.len-insert keys_total s k)

  len-take : set.contains s k ≡ true → set.len (set.remove s k) ≡ set.len s - 1
  len-take h = grind (arith, set.len-remove keys_total s k)

module _ {K V R E : Type 0} (given : RunGiven K V R E) (old : State V) (c : DetachCommand K V) (r : Reply K V R E) (new : State V) (step : DetachStep given old c r new) where
  still_tallied : (n : Tally) → IsTallied old n → set.len (retired new) ≡ 0 → IsTallied new (tallied c r n)
  still_tallied n t none = record {
    live = grind (arith, t.live, len-insert, len-replace, len-remove, len-part, map.len-empty key_cmp V);
    detached = grind (arith, t.detached, len-add, len-take);
    peak = grind (arith, t.live, t.detached, t.peak, t.unretired);
    unretired = none;
  }

  small : (n : Tally) → IsTallied old n → (k : K) → r ≡ reply.Key k → (given.data_of k).index ≤ (tallied c r n).most
  small n t k is = grind (arith, t.live, t.detached, t.peak, t.unretired)

  counted : (n : Tally) → IsTallied old n → (m : ℕ) → c ≡ detaching.Plain command.Len → r ≡ reply.Len m → m ≤ n.live
  counted n t m asks is = grind (arith, t.live, asks, is)

module _ {K V R E : Type 0} (data_of : K → Key) (c : DetachCommand K V) (r : Reply K V R E) (cs : List (DetachCommand K V)) (rs : List (Reply K V R E)) (n : Tally) where
  abbrev Small : Tally → List (DetachCommand K V) → List (Reply K V R E) → Type 0
  Small n cs rs = IndexStaysSmall data_of n.live n.detached n.most cs rs

  small_step : ((k : K) → r ≡ reply.Key k → (data_of k).index ≤ (tallied c r n).most) → ((m : ℕ) → c ≡ detaching.Plain command.Len → r ≡ reply.Len m → m ≤ n.live) → Small (tallied c r n) cs rs → Small n (c ∷ cs) (r ∷ rs)
  small_step here counts rest = grind (arith, counts)

module _ {K V R E C : Type 0} (given : RunGiven K V R E) (of : C → DetachCommand K V) where
  abbrev FreeStep : State V → C → Reply K V R E → State V → Type 0
  FreeStep = Unretiring (StepOf given of)

  all_small : (cs : List C) (rs : List (Reply K V R E)) (s t : State V) → Run FreeStep s cs rs t → (n : Tally) → IsTallied s n
      → IndexStaysSmall given.data_of n.live n.detached n.most (list_map of cs) rs
  all_small [] [] s t run n h = tt
  all_small (c ∷ cs) (r ∷ rs) s t run n h =
      let none = ap set.len run.1.1 ∙ set.len-empty key_cmp in
      small_step given.data_of (of c) r (list_map of cs) rs n (small given s (of c) r run.0 run.1.0 n h) (counted given s (of c) r run.0 run.1.0 n h)
      (all_small cs rs run.0 t run.2 (tallied (of c) r n) (still_tallied given s (of c) r run.0 run.1.0 n h none))
  all_small _ _ s t run n h = absurd run

  pub index_stays_small : (commands : List C) (replies : List (Reply K V R E)) (t : State V) → Run FreeStep empty_state commands replies t
      → IndexStaysSmall given.data_of 0 0 0 (list_map of commands) replies
  index_stays_small commands replies t run = all_small commands replies empty_state t run (record { live = 0; detached = 0; most = 0 }) (record {
    live = omega (arith, map.len-empty key_cmp V);
    detached = omega (arith, set.len-empty key_cmp);
    peak = omega arith;
    unretired = ap set.len (none_retired_at_first V) ∙ set.len-empty key_cmp;
  })
