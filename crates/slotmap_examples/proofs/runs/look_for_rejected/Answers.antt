use Rattle.std.proofs.Common.{◌≡◌, arith, ap, refl, inr, slice_get, rules}
use Rattle.slotmap.specs.Words.{given, PlainCommand}
use Rattle.slotmap.proofs.Callers.{live_lost_not_found}
use Rattle.slotmap_examples.proofs.runs.look_for_rejected.Goals as goal

pub returns : goal.returns
returns g c =
    let asked = c.in-Ok.ensures.items in
    let ran = c.in-Ok-made.ensures in
    let none = live_lost_not_found (given (λ k. k) _ _ _ _ _ _ g.M.Primary.REUSES) PlainCommand c.args.key _ _ ran.starts ran.run 0 1 _ _ _ _ (omega arith)
    (ap (λ l. slice_get l 0) asked) c.in_ok-done_at.ensures (inr (refl, λ key v w stays same keeps. let said = keeps.says in search rules))
    (ap (λ l. slice_get l 1) asked) c.in_ok-flag.ensures c.requires.live (λ n b q less is_b is_q. tt) in
    record { gone = let said = none refl in cc }
