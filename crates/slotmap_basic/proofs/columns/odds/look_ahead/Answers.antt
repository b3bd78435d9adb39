use Rattle.std.proofs.Common.{◌≡◌, ◌+◌, ◌-◌}
use Rattle.slotmap_basic.proofs.Common.{common_steps, max, refl, subst, arith, HasOdds, IsRun, odds_start, odds_refill, odds_last, full_run}
use Rattle.slotmap_basic.proofs.columns.odds.look_ahead.Goals as goal

pub returns-then-at-versions : goal.returns-then-at-versions
returns-then-at-versions c = record { none = λ is i v from below read. absurd (omega (arith, c.if-at-versions.true)); run = λ is. absurd (omega arith); chunk = λ some rest. absurd (some refl) }

pub returns-then-run-at : goal.returns-then-run-at
returns-then-run-at c = grind (arith, common_steps)

pub returns : goal.returns
returns c =
    let vs = c.args.versions.now in
    let at = c.args.at in
    let found = c.next_chunk.ensures in
    let start = odds_start vs at (omega (arith, c.if-at-versions.false)) in
    let chunk = odds_refill vs at at at start (omega arith) (omega arith) _ _ found in
    let here : c.next_chunk.result.0 - 64 ≡ max c.next_chunk.result.0 (at + 64) - 64 = omega (arith, found.on) in
    record {
      none = odds_last vs at at at start (omega arith) (omega arith) _ _ found;
      run = λ is. subst (λ i. IsRun vs at i c.next_chunk.result.0) here (full_run vs _ at found.on (subst (HasOdds vs _ at) is chunk));
      chunk = λ some rest. found;
    }
