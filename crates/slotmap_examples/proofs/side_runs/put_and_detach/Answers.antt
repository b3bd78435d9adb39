use Rattle.std.proofs.Common.{◌≡◌, slice_get, ap, arith, rules}
use Rattle.slotmap.proofs.Callers.{detach_put_seen}
use Rattle.slotmap_examples.proofs.side_runs.put_and_detach.Goals as goal

pub returns : goal.returns
returns g c =
    let asked = c.in-Ok.ensures.items in
    let told = c.in-Ok-run_joined_detaching.ensures.dictionary c.requires.unused c.requires.empty (rw asked (omega arith)) in
    record {
      found = detach_put_seen _ (λ v. v) told.0 _ _ 2 6 1 50 _ _ told.1 (λ v r sees. search rules) (omega arith)
          (rw asked (tt, (tt, (tt, (tt, (λ e. absurd (omega (arith, e)), (tt, tt))))))) (rw asked (tt, (tt, (λ e. absurd (omega (arith, e)), tt))))
          (ap (λ l. slice_get l 2) asked) (ap (λ l. slice_get l 6) asked) c.in_ok-_before.ensures c.in_ok-seen.ensures;
    }
