use Rattle.std.proofs.Common.{◌≡◌, arith, ap, refl, slice_get, true}
use Rattle.slotmap.specs.Words.{PlainCommand}
use Rattle.slotmap.proofs.Callers.{gone_not_found, never_detached}
use Rattle.slotmap_examples.proofs.runs.look_for_shown.Goals as goal

pub returns : goal.returns
returns g c =
    let asked = c.in-Ok.ensures.items in
    let none = gone_not_found (λ k. k) PlainCommand _ _ c.args.key 0 1 3 _ _ _ _ _ _ c.in-Ok-made.ensures.laws.gone_for_good (omega arith) (omega arith)
    (never_detached (λ k. k) _ _ c.args.key 0 1) (ap (λ l. slice_get l 0) asked) c.in_ok-flag.ensures (c.if-not-flag.false, refl)
    (ap (λ l. slice_get l 1) asked) c.in_ok-done_at.ensures tt (ap (λ l. slice_get l 3) asked) c.in_ok-seen.ensures in
    record { gone = let said = none refl in cc }
