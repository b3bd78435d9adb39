use Rattle.std.proofs.Common.{refl}
use Rattle.slotmap.proofs.Callers.{removed_finds_nothing}
use Rattle.slotmap.specs.Words.{PlainCommand}
use Rattle.slotmap_examples.proofs.told.look_for_taken.Goals as goal

pub returns : goal.returns
returns g c = record {
  gone = removed_finds_nothing _ (λ command. command) PlainCommand (λ command. refl) _ _ c.args.takes c.args.asks c.args.key _ _ c.in-Ok.ensures.laws.removed_for_good
      c.requires.later c.requires.takes c.requires.asks c.in_ok-_value.ensures c.in_ok-seen.ensures;
}
