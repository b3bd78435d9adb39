use Rattle.slotmap_hop.proofs.Common.{same_live, CallsAt-called, common_steps, Retaining, RetainingAt, retaining_starts_at, retaining_may_come, retaining_kept_at, retaining_dropped_at, retaining_ends}
use Rattle.slotmap_hop.proofs.Common.{Some, None, arith}
use Rattle.slotmap_hop.proofs.HopSlotMap.retain.Goals.{In-Some, In_default, After-key_at-key}
use Rattle.slotmap_hop.proofs.HopSlotMap.retain.Goals as goal

pub loop-next-init : goal.loop-next-init
loop-next-init g c = retaining_starts_at g.F.FnMut g.K.Key.data_of c.args.self.now c.args.f _ c.first_place-next.ensures.valid c.first_place-next.ensures.comes

at_place : (g : _) (c : In-Some g) → RetainingAt g.F.FnMut g.K.Key.data_of c.args.self.now c.args.f c.loop-next.self (Some c.in-Some.index) c.loop-next.f
at_place g c = rw c.in-Some.is at c.loop-next.invariant

pub key_at-key-requires : goal.key_at-key-requires
key_at-key-requires g c = (at_place g (goal.at.key_at-key-requires g c).In-Some).0

so_far : (g : _) (c : After-key_at-key g) → Retaining g.F.FnMut g.K.Key.data_of c.args.self.now c.args.f c.loop-next.self (Some c.key_at-key.result) c.loop-next.f
so_far g c = (at_place g (goal.at.After-key_at-key g c).In-Some).1 c.key_at-key.result c.key_at-key.ensures.live c.key_at-key.ensures.index

pub f-stays-requires : goal.f-stays-requires
f-stays-requires g c = grind (arith, common_steps, retaining_may_come)

pub take_live-requires : goal.take_live-requires
take_live-requires g c = grind (arith, common_steps, same_live)

pub loop-next-preserved : goal.loop-next-preserved
loop-next-preserved g c =
    let comes = rw (← c.key_at-key.ensures.index) at c.first_place-next-else-stays.ensures.comes in
    let took = c.take_live.ensures in
    retaining_dropped_at g.F.FnMut g.K.Key.data_of c.args.self.now c.args.f c.first_place-next.ensures.valid (CallsAt-called g.F.FnMut c.f-stays.ensures)
    (so_far g (goal.at.loop-next-preserved g c).After-key_at-key) c.get_unchecked_mut.ensures.value c.take_live.new.self _ comes c.if-stays.false took.removes took.blocks took.valid

pub loop-next-preserved-then-stays : goal.loop-next-preserved-then-stays
loop-next-preserved-then-stays g c =
    let comes = rw (← c.key_at-key.ensures.index) at c.first_place-next-then-stays.ensures.comes in
    retaining_kept_at g.F.FnMut g.K.Key.data_of c.args.self.now c.args.f c.first_place-next.ensures.valid (CallsAt-called g.F.FnMut c.f-stays.ensures)
    (so_far g (goal.at.loop-next-preserved-then-stays g c).After-key_at-key) c.get_unchecked_mut.ensures.value _ comes c.if-stays.true

-- the closure was called for all live keys
ended : (g : _) (c : In_default g) → Retaining g.F.FnMut g.K.Key.data_of c.args.self.now c.args.f c.loop-next.self None c.loop-next.f
ended g c = rw c.in_default.is at c.loop-next.invariant

pub returns-clause-order : goal.returns-clause-order
returns-clause-order g c = retaining_ends g.F.FnMut g.K.Key.data_of c.args.self.now c.args.f _ _ (ended g (goal.at.returns-clause-order g c).In_default)

pub returns-clause-retained : goal.returns-clause-retained
returns-clause-retained g c = (returns-clause-order g c).retains

pub returns-clause-leaves : goal.returns-clause-leaves
returns-clause-leaves g c = (ended g (goal.at.returns-clause-leaves g c).In_default).sweep.swept.leaves

pub returns-clause-valid : goal.returns-clause-valid
returns-clause-valid g c = grind (arith, common_steps, ended)

pub first_place-next-requires-then-stays : goal.first_place-next-requires-then-stays
first_place-next-requires-then-stays g c = grind (arith, common_steps)

pub first_place-next-requires-else-stays : goal.first_place-next-requires-else-stays
first_place-next-requires-else-stays g c = grind (arith, common_steps)
