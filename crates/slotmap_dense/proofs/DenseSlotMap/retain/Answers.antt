use Rattle.std.proofs.Common.{◌≡◌, ◌<◌, ◌≤◌}
use Rattle.slotmap_dense.proofs.Common.{stage, Going-start, Going-may, Going-rejected, Rejected-stands, Going-dropped, Ended, Going-end, len_keys, length, ap, arith}
use Rattle.slotmap_dense.proofs.DenseSlotMap.retain.Goals.{After-len}
use Rattle.slotmap_dense.proofs.DenseSlotMap.retain.Goals as goal

pub loop-position-init : goal.loop-position-init
loop-position-init g c = record { going = Going-start g.F.FnMut g.K.Key.data_of c.args.self.now c.args.f c.note_valid.ensures; within = omega arith }

pub first_rejected-position-requires-clause-callable : goal.first_rejected-position-requires-clause-callable
first_rejected-position-requires-clause-callable g c =
    let at = c.loop-position in
    Going-may g.F.FnMut g.K.Key.data_of c.args.self.now c.args.f c.requires (stage at.position at.self at.f) at.invariant.going

pub take_at-requires : goal.take_at-requires
take_at-requires g c =
    omega (arith, c.if-position-len.false, c.first_rejected-position.ensures.within, c.len.ensures.value, len_keys c.first_rejected-position.new.self c.len.ensures.valid)

pub loop-position-smaller : goal.loop-position-smaller
loop-position-smaller g c = omega (arith, c.take_at.ensures.fewer, ap length c.first_rejected-position.ensures.keys)

pub loop-position-preserved : goal.loop-position-preserved
loop-position-preserved g c =
    let at = c.loop-position in
    let found = c.first_rejected-position in
    let within : found.result < length found.new.self.keys = omega (arith, c.if-position-len.false, found.ensures.within, c.len.ensures.value, len_keys found.new.self c.len.ensures.valid) in
    let rejected = Going-rejected g.F.FnMut g.K.Key.data_of c.args.self.now c.args.f _ _ at.invariant.going found.ensures.passes within in
    let leaves = c.take_at.ensures.leaves _ (Rejected-stands g.F.FnMut g.K.Key.data_of c.args.self.now c.args.f _ rejected) in
    record {
      going = Going-dropped g.F.FnMut g.K.Key.data_of c.args.self.now c.args.f rejected.last _ rejected.rejects.visit rejected.going rejected.rejects.calls
          rejected.rejects.leaves rejected.rejects.here c.take_at.new.self leaves c.take_at.ensures.valid.after c.take_at.ensures.valid.capacity;
      within = omega (arith, within, c.take_at.ensures.fewer);
    }

ended : (g : _) (c : After-len g) → c.first_rejected-position.result ≡ c.len.result
    → Ended g.F.FnMut g.K.Key.data_of c.args.self.now c.args.f (stage c.first_rejected-position.result c.first_rejected-position.new.self c.first_rejected-position.new.f)
ended g c is =
    let found = c.first_rejected-position in
    let past : length found.new.self.keys ≤ found.result = omega (arith, is, c.len.ensures.value, len_keys found.new.self c.len.ensures.valid) in
    Going-end g.F.FnMut g.K.Key.data_of c.args.self.now c.args.f _ _ c.loop-position.invariant.going found.ensures.passes past

pub returns-clause-order : goal.returns-clause-order
returns-clause-order g c = (ended g (goal.at.returns-clause-order g c).After-len c.if-position-len.true).packed

pub returns-clause-retained : goal.returns-clause-retained
returns-clause-retained g c = (returns-clause-order g c).retains

pub returns-clause-leaves : goal.returns-clause-leaves
returns-clause-leaves g c = (ended g (goal.at.returns-clause-leaves g c).After-len c.if-position-len.true).leaves
