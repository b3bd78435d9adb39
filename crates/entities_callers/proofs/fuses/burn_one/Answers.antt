use Rattle.std.proofs.Common.{◌-◌, sym, arith}
use Rattle.slotmap.proofs.Callers.{get-bind_here, get-bind_other}
use Rattle.entities_callers.proofs.fuses.burn_one.Goals as goal

pub returns-in-Some-clause-burnt : goal.returns-in-Some-clause-burnt
returns-in-Some-clause-burnt c =
    let here = get-bind_here _ c.args.key _ (c.in-Some.fuse.now - 1) (sym c.in-Some.ensures.value) in grind (arith, here, c.in-Some.ensures.value)

pub returns-in-Some-clause-others : goal.returns-in-Some-clause-others
returns-in-Some-clause-others c = get-bind_other _ c.args.key _ _ (sym c.in-Some.ensures.value)
