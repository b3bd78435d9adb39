use Rattle.std.proofs.Common.{◌≡◌, ◌+◌, ◌%◌, ◌^◌}
use Rattle.slotmap_slots.proofs.Common.{FitsEmpty-free, nat_eq, last_version, is_some, head_fits, settled_present, settled_positive, settled_value, removed_last, removed_other}
use Rattle.slotmap_slots.proofs.Common.{true, false, ap, arith, eq-eqb, ne_eqb}
use Rattle.slotmap_slots.proofs.slots.Slots.take.Goals.{Then-after-eq0, Else-after-eq0}
use Rattle.slotmap_slots.proofs.slots.Slots.take.Goals as goal

-- the version wraps to 0 after the last one alone
last : (g : _) (c : Then-after-eq0 g) → nat_eq c.args.key.version last_version ≡ true
last g c = eq-eqb _ _ (omega (arith, c.version-version.ensures.value, c.version-version.type_inv, c.if-after-eq0.true))

other : (g : _) (c : Else-after-eq0 g) → nat_eq c.args.key.version last_version ≡ false
other g c = ne_eqb _ _ (λ e. c.if-after-eq0.false (omega (arith, e, c.version-version.ensures.value)))

plus_one : (g : _) (c : Else-after-eq0 g) → (c.version-version.result + 1) % 2 ^ 32 ≡ c.args.key.version + 1
plus_one g c = omega (arith, c.version-version.ensures.value, c.version-version.type_inv, c.if-after-eq0.false)

pub overflow_sub-self : goal.overflow_sub-self
overflow_sub-self g c = omega (arith, settled_positive c.self.invariant c.self.view_is c.args.key c.requires)

pub take-requires-clause-there : goal.take-requires-clause-there
take-requires-clause-there g c = rw c.idx-index.ensures.value (ap is_some (settled_present c.self.invariant c.self.view_is c.args.key c.requires).read)

pub invariant_of-self : goal.invariant_of-self
invariant_of-self g c =
    rw (c.take.ensures.left, c.take.ensures.same_room, c.idx-index.ensures.value)
    (removed_last c.self.invariant c.self.view_is c.args.key c.requires (last g (goal.at.invariant_of-self g c).Then-after-eq0)).settled

pub returns-then-after-eq0-clause-value : goal.returns-then-after-eq0-clause-value
returns-then-after-eq0-clause-value g c = settled_value c.self.invariant c.self.view_is c.args.key c.requires _ c.idx-index.ensures.value _ c.take.ensures.value

pub returns-then-after-eq0-clause-removes : goal.returns-then-after-eq0-clause-removes
returns-then-after-eq0-clause-removes g c =
    rw (c.take.ensures.left, c.take.ensures.same_room, c.idx-index.ensures.value)
    (removed_last c.self.invariant c.self.view_is c.args.key c.requires (last g (goal.at.returns-then-after-eq0-clause-removes g c).Then-after-eq0)).becomes

pub returns-then-after-eq0-clause-valid : goal.returns-then-after-eq0-clause-valid
returns-then-after-eq0-clause-valid g c =
    rw (c.take.ensures.left, c.take.ensures.same_room, c.idx-index.ensures.value)
    (removed_last c.self.invariant c.self.view_is c.args.key c.requires (last g (goal.at.returns-then-after-eq0-clause-valid g c).Then-after-eq0)).valid

pub take-payload-requires-clause-there : goal.take-payload-requires-clause-there
take-payload-requires-clause-there g c = rw c.idx-index.ensures.value (ap is_some (settled_present c.self.invariant c.self.view_is c.args.key c.requires).read)

pub take-payload-requires-clause-out : goal.take-payload-requires-clause-out
take-payload-requires-clause-out g c =
    FitsEmpty-free _ _ (omega (arith, c.version-version.ensures.value, (settled_present c.self.invariant c.self.view_is c.args.key c.requires).odd)) (head_fits c.self.invariant.sound)
    (λ e. omega (arith, e, c.if-after-eq0.false))

pub invariant_of-self-2 : goal.invariant_of-self-2
invariant_of-self-2 g c =
    let at = (goal.at.invariant_of-self-2 g c).Else-after-eq0 in
    rw (c.take-payload.ensures.left, c.take-payload.ensures.same_room, c.idx-index.ensures.value, plus_one g at, c.idx-self-inside.ensures.value)
    (removed_other c.self.invariant c.self.view_is c.args.key c.requires (other g at)).settled

pub returns-clause-value : goal.returns-clause-value
returns-clause-value g c = settled_value c.self.invariant c.self.view_is c.args.key c.requires _ c.idx-index.ensures.value _ c.take-payload.ensures.value

pub returns-clause-removes : goal.returns-clause-removes
returns-clause-removes g c =
    let at = (goal.at.returns-clause-removes g c).Else-after-eq0 in
    rw (c.take-payload.ensures.left, c.take-payload.ensures.same_room, c.idx-index.ensures.value, plus_one g at, c.idx-self-inside.ensures.value)
    (removed_other c.self.invariant c.self.view_is c.args.key c.requires (other g at)).becomes

pub returns-clause-valid : goal.returns-clause-valid
returns-clause-valid g c =
    let at = (goal.at.returns-clause-valid g c).Else-after-eq0 in
    rw (c.take-payload.ensures.left, c.take-payload.ensures.same_room, c.idx-index.ensures.value, plus_one g at, c.idx-self-inside.ensures.value)
    (removed_other c.self.invariant c.self.view_is c.args.key c.requires (other g at)).valid
