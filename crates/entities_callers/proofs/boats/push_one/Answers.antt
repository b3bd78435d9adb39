use Rattle.std.proofs.Common.{◌+◌, ◌%◌, ◌^◌, sym, arith}
use Rattle.slotmap.proofs.Callers.{get-bind_here, get-bind_other}
use Rattle.entities_callers.proofs.boats.push_one.Goals as goal

pub returns-in-Some-component_mut-clause-pushed : goal.returns-in-Some-component_mut-clause-pushed
returns-in-Some-component_mut-clause-pushed c =
    let here = get-bind_here _ c.args.key _ ((c.in-Some.speed.now + c.in-Some.push.now) % 2 ^ 64) (sym c.in-Some-component_mut.ensures.value) in
    grind (arith, here, c.in-Some.ensures.value)

pub returns-in-Some-component_mut-clause-others : goal.returns-in-Some-component_mut-clause-others
returns-in-Some-component_mut-clause-others c = get-bind_other _ c.args.key _ _ (sym c.in-Some-component_mut.ensures.value)
