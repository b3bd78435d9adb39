-- The machine of a primary map and a secondary map beside it.
use Rattle.std.specs.Prelude.{◌≡◌, ℕ, zero, suc, Option, Some, None, Bool, List, [], ◌∷◌, ◌++◌}
use Rattle.std.specs.List.{slice_get}
use Rattle.std.specs.Fn.{FnReturnsAt, Shared}
use Rattle.std.specs.Borrow.{Bor}
use Rattle.slotmap_core.specs.Key.{Key}
use Rattle.slotmap_core.specs.Content.{Content}
use Rattle.slotmap_core.specs.Machine.{State}
use Rattle.slotmap_core.specs.Step as primary_step
use Rattle.slotmap_core.specs.Run.{Run}
use Rattle.slotmap_core.specs.Fit.{Fits}
use Rattle.slotmap_core.specs.Secondary.{Pairs}
use Rattle.slotmap_core.specs.SecondaryStep as secondary_step
use Rattle.slotmap_core.specs.declared.commands.DetachCommand.{DetachCommand}
use Rattle.slotmap_core.specs.declared.commands.DetachCommand.TheVariants.{Plain, Detach, Reattach}
use Rattle.slotmap_core.specs.declared.commands.Command.TheVariants as first
use Rattle.slotmap_core.specs.declared.commands.Reply.{Reply}
use Rattle.slotmap_core.specs.declared.commands.Reply.TheVariants as first_reply
use Rattle.slotmap_core.specs.declared.secondary.SecondaryCommand.{SecondaryCommand}
use Rattle.slotmap_core.specs.declared.secondary.SecondaryCommand.TheVariants as second
use Rattle.slotmap_core.specs.declared.secondary.SecondaryReply.{SecondaryReply}
use Rattle.slotmap_core.specs.declared.secondary.SecondaryReply.TheVariants as second_reply
use Rattle.slotmap_core.specs.declared.joined.JoinedCommand.{JoinedCommand}
use Rattle.slotmap_core.specs.declared.joined.JoinedCommand.TheVariants as command
use Rattle.slotmap_core.specs.declared.joined.JoinedDetachCommand.{JoinedDetachCommand}
use Rattle.slotmap_core.specs.declared.joined.JoinedDetachCommand.TheVariants as detaching
use Rattle.slotmap_core.specs.declared.joined.JoinedReply.{JoinedReply}
use Rattle.slotmap_core.specs.declared.joined.JoinedReply.TheVariants as reply

-- What a run is given: the data of a key, and what may be seen of a value of the secondary map. And whether memory
-- can't run out for an existing slot of the primary map
pub record JoinedGiven (K W R : Type 0) : Type 1 where
  pub data_of : K → Key
  pub looks : W → R → Type 0
  pub reuses : Bool

-- what a run with the closure `look` is given
abbrev pub given_joined : {K W R L : Type 0} → (K → Key) → Shared L (Bor W × Unit {0}) R → L → Bool → JoinedGiven K W R
given_joined data_of look_calls look reuses = record { data_of = data_of; looks = FnReturnsAt look_calls look; reuses = reuses }

-- the states of both machines
pub record Joined (K V W : Type 0) : Type 0 where
  pub primary : State V
  pub secondary : Pairs W
  -- the keys that the inserts of this list returned, in order
  pub keys : List K

-- the key that a number names, from 1 on
abbrev pub named : {K : Type 0} → List K → ℕ → Option K
named keys zero = None
named keys (suc n) = slice_get keys n

module _ {K V W R : Type 0} (given : JoinedGiven K W R) where
  -- a step of the primary map; no command calls a closure there
  abbrev pub First : Joined K V W → DetachCommand K V → Reply K V (Unit {0}) (Unit {0}) → Joined K V W → Type 0
  First old c r new =
      primary_step.DetachStep (record { data_of = given.data_of; looks = λ v r. ⊥; keeps = λ k v w stays. ⊥; makes = λ k r. ⊥; reuses = given.reuses }) old.primary c r new.primary
      × (new.secondary ≡ old.secondary)

  -- a step of the secondary map
  abbrev pub Second : Joined K V W → SecondaryCommand K W → SecondaryReply W R → Joined K V W → Type 0
  Second old c r new =
      secondary_step.SideStep (record { data_of = given.data_of; looks = given.looks }) old.secondary c r new.secondary
      × (new.primary ≡ old.primary) × (new.keys ≡ old.keys)

  -- the key that is returned is the next one that a number names
  abbrev pub StepInsert : Joined K V W → V → JoinedReply K V W R → Joined K V W → Type 0
  StepInsert old v (reply.Key k) new = First old (Plain (first.Insert v)) (first_reply.Key k) new × (new.keys ≡ old.keys ++ k ∷ [])
  StepInsert old v (reply.Full back) new = First old (Plain (first.Insert v)) (first_reply.Full (Some back)) new × (new.keys ≡ old.keys)
  StepInsert old v (reply.Memory back) new = First old (Plain (first.Insert v)) (first_reply.Memory (Some back)) new × (new.keys ≡ old.keys)
  StepInsert old v _ new = ⊥

  -- with the key that the number names, or with no key if it names none
  abbrev pub StepRemove : Joined K V W → Option K → JoinedReply K V W R → Joined K V W → Type 0
  StepRemove old (Some k) (reply.Taken taken) new = First old (Plain (first.Remove k)) (first_reply.Taken taken) new × (new.keys ≡ old.keys)
  StepRemove old None reply.NoKey new = new ≡ old
  StepRemove old _ _ new = ⊥

  abbrev pub StepPut : Joined K V W → Option K → W → JoinedReply K V W R → Joined K V W → Type 0
  StepPut old (Some k) w (reply.Old before) new = Second old (second.Insert k w) (second_reply.Old before) new
  StepPut old (Some k) w (reply.NoRoom back) new = Second old (second.Insert k w) (second_reply.Memory back) new
  StepPut old None w (reply.NoKeySecond back) new = (back ≡ w) × (new ≡ old)
  StepPut old _ w _ new = ⊥

  abbrev pub StepLook : Joined K V W → Option K → JoinedReply K V W R → Joined K V W → Type 0
  StepLook old (Some k) (reply.Looked seen) new = Second old (second.Get k) (second_reply.Looked seen) new
  StepLook old None reply.NoKey new = new ≡ old
  StepLook old _ _ new = ⊥

  abbrev pub StepTake : Joined K V W → Option K → JoinedReply K V W R → Joined K V W → Type 0
  StepTake old (Some k) (reply.TakenSecond taken) new = Second old (second.Remove k) (second_reply.Taken taken) new
  StepTake old None reply.NoKey new = new ≡ old
  StepTake old _ _ new = ⊥

  -- from old, the machine may give this reply to the command and go on to new: a step of one of the two maps, or no step
  abbrev pub JoinedStep : Joined K V W → JoinedCommand V W → JoinedReply K V W R → Joined K V W → Type 0
  JoinedStep old (command.Insert v) r new = StepInsert old v r new
  JoinedStep old (command.Remove n) r new = StepRemove old (named old.keys n) r new
  JoinedStep old (command.Put n w) r new = StepPut old (named old.keys n) w r new
  JoinedStep old (command.Look n) r new = StepLook old (named old.keys n) r new
  JoinedStep old (command.Take n) r new = StepTake old (named old.keys n) r new

  abbrev pub StepDetach : Joined K V W → Option K → JoinedReply K V W R → Joined K V W → Type 0
  StepDetach old (Some k) (reply.Taken taken) new = First old (Detach k) (first_reply.Taken taken) new × (new.keys ≡ old.keys)
  StepDetach old None reply.NoKey new = new ≡ old
  StepDetach old _ _ new = ⊥

  abbrev pub StepReattach : Joined K V W → Option K → V → JoinedReply K V W R → Joined K V W → Type 0
  StepReattach old (Some k) v reply.Done new = First old (Reattach k v) first_reply.Done new × (new.keys ≡ old.keys)
  StepReattach old (Some k) v (reply.NotDetached back) new = First old (Reattach k v) (first_reply.NotDetached back) new × (new.keys ≡ old.keys)
  StepReattach old (Some k) v (reply.Memory back) new = First old (Reattach k v) (first_reply.Memory (Some back)) new × (new.keys ≡ old.keys)
  StepReattach old None v (reply.NoKeyFirst back) new = (back ≡ v) × (new ≡ old)
  StepReattach old _ v _ new = ⊥

  -- the same for a primary map whose keys can be detached
  abbrev pub JoinedDetachStep : Joined K V W → JoinedDetachCommand V W → JoinedReply K V W R → Joined K V W → Type 0
  JoinedDetachStep old (detaching.Plain c) r new = JoinedStep old c r new
  JoinedDetachStep old (detaching.Detach n) r new = StepDetach old (named old.keys n) r new
  JoinedDetachStep old (detaching.Reattach n v) r new = StepReattach old (named old.keys n) v r new

-- The replies are a run from each state that fits the primary map and from the pairs of the secondary one. It leads to a
-- state that fits the primary map afterwards, and to the secondary map's pairs then
abbrev pub RunsBeside : {K V W C R : Type 0} → (Joined K V W → C → R → Joined K V W → Type 0) → Content V → Pairs W → List C → List R → Content V → Pairs W → Type 0
RunsBeside {K} {V} {W} Step old_first old_second commands replies new_first new_second =
    (s : State V) → Fits s old_first
    → (t : Joined K V W) × Run Step (record { primary = s; secondary = old_second; keys = [] }) commands replies t × Fits t.primary new_first × (t.secondary ≡ new_second)
