use Rattle.std.proofs.Common.{arith, ap, refl, slice_get}
use Rattle.slotmap.specs.Words.{PlainCommand}
use Rattle.slotmap.proofs.Callers.{removed_finds_nothing}
use Rattle.slotmap_examples.proofs.runs.look_for_removed.Goals as goal

pub returns : goal.returns
returns g c = record {
  gone = removed_finds_nothing _ PlainCommand (λ command. command) (λ command. refl) _ _ 1 3 c.args.key _ _ c.in-Ok-made.ensures.laws.removed_for_good (omega arith)
      (ap (λ l. slice_get l 1) c.in-Ok.ensures.items) (ap (λ l. slice_get l 3) c.in-Ok.ensures.items) c.in_ok-_value.ensures c.in_ok-seen.ensures;
}
