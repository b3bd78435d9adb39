use Rattle.std.proofs.Common.{◌≡◌, ◌+◌, ◌-◌}
use Rattle.slotmap_basic.proofs.Common.{odds_on, odds_next, odds_step, refl, arith}
use Rattle.slotmap_basic.proofs.columns.odds.take_lowest.Goals as goal

pub returns : goal.returns
returns c =
    let vs = c.args.versions.now in
    let end = c.args.cursor.end in
    let bits = c.args.cursor.bits in
    let has = c.requires.cursor in
    let lane = c.lowest-lane.result in
    let low = c.lowest-lane.ensures in
    let on = odds_on vs end c.args.cursor.index bits has lane low.bound low.set low.below in
    let found = end + lane - 64 in
    let is : found + 64 ≡ end + lane = omega (arith, on) in
    record {
      next = odds_next vs end c.args.cursor.index bits has lane low.bound low.set low.below found is;
      run_end = refl;
      cursor = odds_step vs end c.args.cursor.index bits has lane low.bound low.set low.below found is c.without_lowest-bits.result
          c.without_lowest-bits.ensures.gone (λ k l apart. c.without_lowest-bits.ensures.kept k apart);
    }
