use Rattle.std.proofs.Common.{◌≢◌, ◌-◌, ◌^◌}
use Rattle.slotmap_basic.proofs.Common.{AllEven, HasOdds, behind_run, none_left, passed_to, next_from, run_first, run_ahead, odds_refill, subst, arith}
use Rattle.slotmap_basic.proofs.columns.odds.at_next.Goals.{After-look_ahead-end}
use Rattle.slotmap_basic.proofs.columns.odds.at_next.Goals as goal

-- all that was known is passed
passed : (c : After-look_ahead-end) → AllEven c.args.versions.now c.args.cursor.index c.args.cursor.end
passed c = none_left _ _ _ _ (behind_run _ _ _ _ _ c.requires (omega (arith, c.if-cursor.false))) c.if-cursor-ne0.false

chunk : (c : After-look_ahead-end) → c.look_ahead-end.result.1 ≢ 0 → c.look_ahead-end.result.1 ≢ 2 ^ 64 - 1
    → HasOdds c.args.versions.now c.look_ahead-end.result.0 c.args.cursor.index c.look_ahead-end.result.1
chunk c some rest =
    let has = behind_run _ _ _ _ _ c.requires (omega (arith, c.if-cursor.false)) in
    odds_refill _ _ _ _ (subst (HasOdds _ _ _) c.if-cursor-ne0.false has) has.upto (omega arith) _ _ (c.look_ahead-end.ensures.chunk some rest)

pub returns-then-bits-clause-next : goal.returns-then-bits-clause-next
returns-then-bits-clause-next c =
    let before = passed (goal.at.returns-then-bits-clause-next c).After-look_ahead-end in
    rw c.max-index.ensures (next_from _ _ _ _ (omega (arith, c.if-cursor.false, c.requires.behind.upto)) before (run_first _ _ _ _ (c.look_ahead-end.ensures.run c.if-bits.true)))

pub returns-then-bits-clause-ahead : goal.returns-then-bits-clause-ahead
returns-then-bits-clause-ahead c = rw c.max-index.ensures (run_ahead _ _ _ _ (c.look_ahead-end.ensures.run c.if-bits.true))

pub returns-then-bits-eq0-clause-none : goal.returns-then-bits-eq0-clause-none
returns-then-bits-eq0-clause-none c = passed_to _ _ _ _ (passed (goal.at.returns-then-bits-eq0-clause-none c).After-look_ahead-end) (c.look_ahead-end.ensures.none c.if-bits-eq0.true)

pub take_lowest-requires-2-clause-cursor : goal.take_lowest-requires-2-clause-cursor
take_lowest-requires-2-clause-cursor c = chunk (goal.at.take_lowest-requires-2-clause-cursor c).After-look_ahead-end c.if-bits-eq0.false c.if-bits.false
