use Rattle.std.proofs.Common.{arith, ap, slice_get}
use Rattle.slotmap.specs.Words.{PlainCommand}
use Rattle.slotmap.proofs.Callers.{removed_not_found, drained_removes}
use Rattle.slotmap_examples.proofs.runs.insert_after_drain.Goals as goal

pub returns : goal.returns
returns g c =
    let asked = c.in-Ok.ensures.items in
    record {
      differ = removed_not_found (λ k. k) PlainCommand _ _ _ 0 1 _ _ _ _ c.in-Ok-made.ensures.laws.removed_for_good (omega arith)
          (ap (λ l. slice_get l 0) asked) c.in_ok-pairs.ensures (drained_removes (λ k. k) _ 0 _ _ c.in_ok-drained.ensures)
          (ap (λ l. slice_get l 1) asked) c.in_ok-key.ensures;
    }
