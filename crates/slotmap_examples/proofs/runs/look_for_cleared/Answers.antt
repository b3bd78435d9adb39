use Rattle.std.proofs.Common.{◌≡◌, arith, ap, refl, inl, slice_get, false}
use Rattle.slotmap.specs.Words.{any_closures, PlainCommand}
use Rattle.slotmap.proofs.Callers.{live_lost_not_found}
use Rattle.slotmap_examples.proofs.runs.look_for_cleared.Goals as goal

pub returns : goal.returns
returns g c =
    let asked = c.in-Ok.ensures.items in
    let ran = c.in-Ok-made.ensures in
    let none = live_lost_not_found (any_closures (λ k. k) g.M.Primary.REUSES) PlainCommand c.args.key _ _ ran.starts ran.goes_on 1 3 _ _ _ _ (omega arith)
    (ap (λ l. slice_get l 1) asked) c.in_ok-done_at.ensures (inl tt) (ap (λ l. slice_get l 3) asked) c.in_ok-flag.ensures c.requires.live (λ n b q less is_b is_q. tt) in
    record { gone = let said = none refl in cc }
