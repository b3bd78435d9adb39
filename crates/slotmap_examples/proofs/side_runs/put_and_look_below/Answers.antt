use Rattle.std.proofs.Common.{◌≡◌, slice_get, ap, arith, rules}
use Rattle.slotmap.proofs.Callers.{put_shown}
use Rattle.slotmap_examples.proofs.side_runs.put_and_look_below.Goals as goal

pub returns : goal.returns
returns g c =
    let asked = c.in-Ok.ensures.items in
    let told = c.in-Ok-run_joined.ensures.dictionary c.requires.unused c.requires.empty (rw asked (omega arith)) in
    let shown = put_shown _ told.0 _ _ 1 2 1 50 _ _ told.1 (omega arith) (rw asked (tt, (tt, tt))) tt
    (ap (λ l. slice_get l 1) asked) (ap (λ l. slice_get l 2) asked) c.in_ok-_before.ensures c.in_ok-seen.ensures in
    record { below = search rules }
