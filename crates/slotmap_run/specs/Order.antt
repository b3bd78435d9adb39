-- What the private `serve` ensures of one command, and `run_all_new` of the map that it makes.
use Rattle.std.specs.FinMap as map
use Rattle.std.specs.FinSet as set
use Rattle.std.specs.Prelude.{◌≡◌, Bool, true, Some, IsSome}
use Rattle.slotmap_core.specs.Words.{Key, Content, IsContent, places, IsNew, State, RunGiven, Follows, Lifo, IsBasic, after_command, stack_reply, reply_keys, IsRefusal}
use Rattle.slotmap_core.specs.declared.commands.DetachCommand.{DetachCommand}
use Rattle.slotmap_core.specs.declared.commands.Reply.{Reply}

-- l is what c holds, without the values
pub record IsLifo {V : Type 0} (l : Lifo) (c : Content V) : Type 0 where
  pub live : (k : Key) → set.contains l.live k ≡ map.contains_key c.live k
  pub detached : l.detached ≡ c.detached
  pub next : l.next ≡ c.next
  pub stack : c.stack ≡ Some l.stack
  pub places : l.places ≡ places c

module _ {K V R E : Type 0} (data_of : K → Key) where
  -- the reply to a basic command that doesn't fail is that of the machine that reuses the slot freed last
  abbrev pub Orders : Content V → DetachCommand K V → Reply K V R E → Content V → Type 0
  Orders old c r new = (l : Lifo) → IsLifo l old → IsBasic c → (IsRefusal r → ⊥) → (reply_keys data_of r ≡ stack_reply data_of l c) × IsLifo (after_command data_of l c) new

-- a command is run: it is a step of this machine, and slots are reused in that order (`of` makes a command of a list with detaching from
-- it)
pub record Served {K V R E C : Type 0} (Step : RunGiven K V R E → State V → C → Reply K V R E → State V → Type 0) (of : C → DetachCommand K V)
    (given : RunGiven K V R E) (old : Content V) (c : C) (r : Reply K V R E) (new : Content V) : Type 0 where
  pub follows : Follows (Step given) old c r new
  pub orders : Orders given.data_of old (of c) r new

-- c is the content of a new map, and has a stack if the map keeps one
pub record StartsNew {V : Type 0} (reuses stacked : Bool) (c : Content V) : Type 0 where
  pub new : IsNew c
  pub valid : IsContent reuses c
  pub stack : stacked ≡ true → IsSome c.stack
