-- A step binds a fresh key, or binds none.
use Rattle.std.proofs.Common.{◌≡◌, ◌⊎◌}
use Rattle.std.specs.FinMap as map
use Rattle.std.specs.FinSet as set
use Rattle.slotmap_run.proofs.Common.{DetachCommand, Reply}
use Rattle.slotmap_core.proofs.Common.{Key, key_cmp, State, RunGiven, Step, DetachStep, reply_keys, Spares, arith, [], true}
use Rattle.slotmap_run.proofs.MapChanges.{changes}
use Rattle.slotmap_run.proofs.Laws.{Binds, Shrinks, IsMachine}
use Rattle.slotmap_core.specs.declared.commands.DetachCommand.TheVariants as detaching
use Rattle.slotmap_core.specs.declared.commands.Reply.TheVariants as reply

module _ {K V R E : Type 0} (given : RunGiven K V R E) where
  module _ (old : State V) (c : DetachCommand K V) (r : Reply K V R E) (new : State V) (step : DetachStep given old c r new) where
    shrinks : reply_keys given.data_of r ≡ [] → Shrinks given.data_of old r new
    shrinks quiet = record {
      by_dictionary = quiet;
      issued = grind arith;
      held = λ q h. grind (arith, changes, map.get-empty {X = V} key_cmp q);
      apart = λ a q h g. grind (arith, changes, map.get-empty {X = V} key_cmp q, a q);
      promised = grind arith;
      within = λ h. grind arith;
    }

    -- a detached key stays detached until it is reattached
    pub detached_stays : (k : Key) → Spares given.data_of k c r → set.contains old.detached k ≡ true → set.contains new.detached k ≡ true
    detached_stays k spares was = grind (arith, changes)

  binds : (old : State V) (c : DetachCommand K V) (k : K) (new : State V) → DetachStep given old c (reply.Key k) new → Binds {R = R} {E = E} given.data_of old (reply.Key k) new
  binds old c k new h = grind arith

  pub detach_cases : (old : State V) (c : DetachCommand K V) (r : Reply K V R E) (new : State V) → DetachStep given old c r new → Binds given.data_of old r new ⊎ Shrinks given.data_of old r new
  detach_cases old c r new h = grind (arith, binds, shrinks)

  -- the two machines of primary maps
  pub plain_machine : IsMachine given (Step given) (λ command. command)
  plain_machine = record { cases = λ old c. detach_cases old (detaching.Plain c); plainly = λ old c r new step. step }

  pub detach_machine : IsMachine given (DetachStep given) detaching.Plain
  detach_machine = record { cases = detach_cases; plainly = λ old c r new step. step }
