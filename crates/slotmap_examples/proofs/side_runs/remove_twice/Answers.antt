use Rattle.std.proofs.Common.{◌≡◌, arith, ap, refl, slice_get}
use Rattle.slotmap.specs.Words.{PlainJoined}
use Rattle.slotmap.proofs.Callers.{joined_removed_not_found}
use Rattle.slotmap_examples.proofs.side_runs.remove_twice.Goals as goal

pub returns : goal.returns
returns g c =
    let asked = c.in-Ok.ensures.items in
    let none = joined_removed_not_found PlainJoined _ _ 1 3 1 _ _ _ _ c.in-Ok-run_joined.ensures.removed_for_good (omega arith) refl
    (ap (λ l. slice_get l 1) asked) c.in_ok-_value.ensures (ap (λ l. slice_get l 3) asked) c.in_ok-taken.ensures in
    record { gone = let said = none refl in cc }
