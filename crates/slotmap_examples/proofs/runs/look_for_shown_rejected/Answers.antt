use Rattle.std.proofs.Common.{◌≡◌, arith, ap, refl, inr, slice_get, rules}
use Rattle.slotmap.specs.Words.{given, PlainCommand}
use Rattle.slotmap.proofs.Callers.{shown_lost_not_found, never_detached, empty_good}
use Rattle.slotmap_examples.proofs.runs.look_for_shown_rejected.Goals as goal

pub returns : goal.returns
returns g c =
    let asked = c.in-Ok.ensures.items in
    let ran = c.in-Ok-made.ensures.run in
    let none = shown_lost_not_found (given (λ k. k) _ _ _ _ _ _ g.M.Primary.REUSES) PlainCommand c.args.key _ _ _ ran.0 ran.1 empty_good 1 2 3 _ _ _ _ _ _ (omega arith) (omega arith)
    (ap (λ l. slice_get l 1) asked) c.in_ok-flag.ensures (c.if-not-flag.false, refl) (never_detached (λ k. k) _ _ c.args.key 1 2)
    (ap (λ l. slice_get l 2) asked) c.in_ok-done_at.ensures (inr (refl, λ key v w stays same keeps. let said = keeps.says in search rules))
    (ap (λ l. slice_get l 3) asked) c.in_ok-seen.ensures in
    record { gone = let said = none refl in cc }
