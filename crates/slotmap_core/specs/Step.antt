-- The steps of the machine: the possible replies to a command, and the state after each. No other reply than those named
-- here is possible.
use Rattle.std.specs.Prelude.{◌≡◌, ◌≢◌, ℕ, ◌+◌, ◌<◌, ◌≤◌, Some, None, Bool, true, false, Ok, Err, if◌then◌else◌, map as list_map}
use Rattle.std.specs.FinMap as map
use Rattle.std.specs.FinSet as set
use Rattle.slotmap_core.specs.Key.{Key}
use Rattle.slotmap_core.specs.Content.{most}
use Rattle.slotmap_core.specs.Listing.{IsListing, IsKeyListing}
use Rattle.slotmap_core.specs.Machine.{State, Fresh, in_use, after_insert, after_remove, after_replace, after_clear, after_reserve, after_detach, after_reattach}
use Rattle.slotmap_core.specs.Given.{RunGiven}
use Rattle.slotmap_core.specs.declared.commands.Command.{Command}
use Rattle.slotmap_core.specs.declared.commands.Command.TheVariants as command
use Rattle.slotmap_core.specs.declared.commands.DetachCommand.{DetachCommand}
use Rattle.slotmap_core.specs.declared.commands.DetachCommand.TheVariants as detaching
use Rattle.slotmap_core.specs.declared.commands.Reply.{Reply}
use Rattle.slotmap_core.specs.declared.commands.Reply.TheVariants as reply

module _ {V : Type 0} (reuses : Bool) (s : State V) where
  -- an insert may run out of memory
  pub record MayLackMemory : Type 0 where
    -- the limit isn't reached
    pub below_limit : in_use s ≢ most
    -- no insert is owed
    pub not_promised : s.promised ≡ 0
    -- if existing slots need no memory, none of them is vacant
    pub at_peak : reuses ≡ true → in_use s ≡ s.peak

  -- a reserve of n may run out of memory
  pub record MayLackRoom (n : ℕ) : Type 0 where
    -- n more keys are within the limit
    pub within_limit : in_use s + n ≤ most
    -- fewer than n inserts and reattaches are owed
    pub beyond_promise : s.promised < n
    -- if existing slots need no memory, fewer than n of them are vacant
    pub beyond_peak : reuses ≡ true → s.peak < in_use s + n

module _ {K V R E : Type 0} (what : RunGiven K V R E) where
  -- a fresh key is returned, and bound to v; the reply is `Full` if and only if the limit is reached; both errors have v
  abbrev pub StepInsert : State V → V → Reply K V R E → State V → Type 0
  StepInsert old v (reply.Key k) new = (in_use old ≢ most) × Fresh old (what.data_of k) × (new ≡ after_insert old (what.data_of k) v)
  StepInsert old v (reply.Full back) new = (in_use old ≡ most) × (back ≡ Some v) × (new ≡ old)
  StepInsert old v (reply.Memory back) new = MayLackMemory what.reuses old × (back ≡ Some v) × (new ≡ old)
  StepInsert old v _ new = ⊥

  -- the same with a value that `make` may return for the key; or an error that it may return for a fresh key
  abbrev pub StepInsertWith : State V → Reply K V R E → State V → Type 0
  StepInsertWith old (reply.Key k) new = (in_use old ≢ most) × Fresh old (what.data_of k) × ((v : V) × what.makes k (Ok v) × (new ≡ after_insert old (what.data_of k) v))
  StepInsertWith old (reply.Full back) new = (in_use old ≡ most) × (back ≡ None) × (new ≡ old)
  StepInsertWith old (reply.Memory back) new = MayLackMemory what.reuses old × (back ≡ None) × (new ≡ old)
  StepInsertWith old (reply.Failed e) new = (in_use old ≢ most) × ((k : K) × Fresh old (what.data_of k) × what.makes k (Err e)) × (new ≡ old)
  StepInsertWith old _ new = ⊥

  -- the reply is `TooGreat` if and only if n more keys are over the limit; `Done` promises n inserts or reattaches
  abbrev pub StepReserve : State V → ℕ → Reply K V R E → State V → Type 0
  StepReserve old n reply.Done new = (in_use old + n ≤ most) × (new ≡ after_reserve old n)
  StepReserve old n reply.TooGreat new = (most < in_use old + n) × (new ≡ old)
  StepReserve old n (reply.Memory back) new = MayLackRoom what.reuses old n × (back ≡ None) × (new ≡ old)
  StepReserve old n _ new = ⊥

  -- what `look` may return for k's value, if and only if k is live
  abbrev pub StepGet : State V → Key → Reply K V R E → State V → Type 0
  StepGet old k (reply.Looked None) new = (map.get old.live k ≡ None) × (new ≡ old)
  StepGet old k (reply.Looked (Some r)) new = ((v : V) × (map.get old.live k ≡ Some v) × what.looks v r) × (new ≡ old)
  StepGet old k _ new = ⊥

  -- whether k is live
  abbrev pub StepContains : State V → Key → Reply K V R E → State V → Type 0
  StepContains old k (reply.Flag is) new = (is ≡ map.contains_key old.live k) × (new ≡ old)
  StepContains old k _ new = ⊥

  -- the number of live keys
  abbrev pub StepLen : State V → Reply K V R E → State V → Type 0
  StepLen old (reply.Len n) new = (n ≡ map.len old.live) × (new ≡ old)
  StepLen old _ new = ⊥

  -- if k is live, its value is returned and v is bound; else v is returned
  abbrev pub StepReplace : State V → Key → V → Reply K V R E → State V → Type 0
  StepReplace old k v (reply.Put (Ok before)) new = (map.get old.live k ≡ Some before) × (new ≡ after_replace old k v)
  StepReplace old k v (reply.Put (Err back)) new = (map.get old.live k ≡ None) × (back ≡ v) × (new ≡ old)
  StepReplace old k v _ new = ⊥

  -- if k is live, its value is returned and k is no longer live; else `None` is returned
  abbrev pub StepRemove : State V → Key → Reply K V R E → State V → Type 0
  StepRemove old k (reply.Taken (Some v)) new = (map.get old.live k ≡ Some v) × (new ≡ after_remove old k)
  StepRemove old k (reply.Taken None) new = (map.get old.live k ≡ None) × (new ≡ old)
  StepRemove old k _ new = ⊥

  -- if k is live, its value is returned and k is detached; else `None` is returned
  abbrev pub StepDetach : State V → Key → Reply K V R E → State V → Type 0
  StepDetach old k (reply.Taken (Some v)) new = (map.get old.live k ≡ Some v) × (new ≡ after_detach old k)
  StepDetach old k (reply.Taken None) new = (map.get old.live k ≡ None) × (new ≡ old)
  StepDetach old k _ new = ⊥

  -- if k is detached, it is bound to v; or `Memory` has v, but only if existing slots may need memory and no reattach is
  -- owed. If k isn't detached, `NotDetached` has v
  abbrev pub StepReattach : State V → Key → V → Reply K V R E → State V → Type 0
  StepReattach old k v reply.Done new = (set.contains old.detached k ≡ true) × (new ≡ after_reattach old k v)
  StepReattach old k v (reply.NotDetached back) new = (set.contains old.detached k ≡ false) × (back ≡ v) × (new ≡ old)
  StepReattach old k v (reply.Memory back) new = (what.reuses ≡ false) × (set.contains old.detached k ≡ true) × (old.promised ≡ 0) × (back ≡ Some v) × (new ≡ old)
  StepReattach old k v _ new = ⊥

  -- for each live key `keep` writes a value and returns whether the key stays: the key has that value, or is no longer live
  pub record Retains (old new : State V) : Type 0 where
    pub each : (k : Key) (v : V) → map.get old.live k ≡ Some v → (key : K) × (w : V) × (stays : Bool) × (what.data_of key ≡ k)
        × what.keeps key v w stays × (map.get new.live k ≡ (if stays then Some w else None))
    -- no other key becomes live
    pub no_more : (k : Key) → map.get old.live k ≡ None → map.get new.live k ≡ None
    -- the rest of the state is unchanged
    pub rest : new ≡ record old { live = new.live }

  -- `keep` decides for each live key
  abbrev pub StepRetain : State V → Reply K V R E → State V → Type 0
  StepRetain old reply.Done new = Retains old new
  StepRetain old _ new = ⊥

  -- no key is live any longer
  abbrev pub StepClear : State V → Reply K V R E → State V → Type 0
  StepClear old reply.Done new = new ≡ after_clear old
  StepClear old _ new = ⊥

  -- each live key is returned with its value, once, and no key is live any longer
  abbrev pub StepDrain : State V → Reply K V R E → State V → Type 0
  StepDrain old (reply.Drained pairs) new = IsListing old.live (list_map (λ p. (what.data_of p.0, p.1)) pairs.items) × (new ≡ after_clear old)
  StepDrain old (reply.Memory back) new = (back ≡ None) × (new ≡ old)
  StepDrain old _ new = ⊥

  -- each live key is returned once
  abbrev pub StepKeys : State V → Reply K V R E → State V → Type 0
  StepKeys old (reply.Keys keys) new = IsKeyListing old.live (list_map what.data_of keys.items) × (new ≡ old)
  StepKeys old (reply.Memory back) new = (back ≡ None) × (new ≡ old)
  StepKeys old _ new = ⊥

  -- from old, the machine may give this reply to the command and go on to new
  abbrev pub Step : State V → Command K V → Reply K V R E → State V → Type 0
  Step old (command.Insert v) r new = StepInsert old v r new
  Step old command.InsertWith r new = StepInsertWith old r new
  Step old (command.Get k) r new = StepGet old (what.data_of k) r new
  Step old (command.Contains k) r new = StepContains old (what.data_of k) r new
  Step old (command.Replace k v) r new = StepReplace old (what.data_of k) v r new
  Step old (command.Remove k) r new = StepRemove old (what.data_of k) r new
  Step old command.Retain r new = StepRetain old r new
  Step old command.Clear r new = StepClear old r new
  Step old command.Drain r new = StepDrain old r new
  Step old command.Keys r new = StepKeys old r new
  Step old command.Len r new = StepLen old r new
  Step old (command.Reserve n) r new = StepReserve old n r new

  -- the same for the maps whose keys can be detached
  abbrev pub DetachStep : State V → DetachCommand K V → Reply K V R E → State V → Type 0
  DetachStep old (detaching.Plain c) r new = Step old c r new
  DetachStep old (detaching.Detach k) r new = StepDetach old (what.data_of k) r new
  DetachStep old (detaching.Reattach k v) r new = StepReattach old (what.data_of k) v r new
