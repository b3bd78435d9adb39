use Rattle.slotmap_dense.proofs.Common.{length, refl, ap, ◌∙◌, arith, rules, well_formed, refused-grow, may-grow, Appended, appended}
use Rattle.std.proofs.lemmas.Grind.{common_steps}
use Rattle.slotmap_dense.proofs.MoveLemmas.{kept_not_live}
use Rattle.slotmap_dense.proofs.DenseSlotMap.reattach.Goals.{After-push_reserved-2}
use Rattle.slotmap_dense.proofs.DenseSlotMap.reattach.Goals as goal

pub returns-then-not-is_detached-clause-valid : goal.returns-then-not-is_detached-clause-valid
returns-then-not-is_detached-clause-valid g c = let well = well_formed _ c.self.inside c.self.view_is c.self.invariant in search rules

pub returns-then-is_err-clause-valid : goal.returns-then-is_err-clause-valid
returns-then-is_err-clause-valid g c =
    let m = c.self.inside in
    let keys = c.make_room_in.ensures in
    refused-grow _ m c.self.view_is c.self.invariant m.slots c.make_room_in.new.items m.values _ refl keys.keeps refl keys.capacity (omega arith)
    (λ in_keys in_values. (keys.had_room in_keys, refl))

pub returns-then-is_err-2-clause-valid : goal.returns-then-is_err-2-clause-valid
returns-then-is_err-2-clause-valid g c =
    let m = c.self.inside in
    let keys = c.make_room_in.ensures in
    let values = c.make_room_in-2.ensures in
    refused-grow _ m c.self.view_is c.self.invariant m.slots c.make_room_in.new.items c.make_room_in-2.new.items _ refl keys.keeps values.keeps keys.capacity values.capacity
    (λ in_keys in_values. (keys.had_room in_keys, values.had_room in_values))

grown : (g : _) (c : After-push_reserved-2 g) → Appended g.K.Key.data_of c.self.inside c.self.view_is c.self.invariant c.reattach.new.self c.push_reserved.new.self
    c.push_reserved-2.new.self (g.K.Key.data_of c.args.key) c.args.value c.len-position.result
grown g c =
    let keys = c.make_room_in.ensures in
    let values = c.make_room_in-2.ensures in
    appended _ c.self.inside c.self.view_is c.self.invariant c.reattach.new.self c.push_reserved.new.self c.push_reserved-2.new.self c.args.key _ _
    (omega (arith, c.make_room_in.new.items.ok.0, ap length keys.keeps))
    (kept_not_live _ _ c.self.invariant.well (rw c.data-data.ensures.value at c.reattach.ensures.reattaches.was_detached))
    (rw (← keys.keeps) c.push_reserved.ensures.items) (rw (← values.keeps) c.push_reserved-2.ensures.items)
    (omega (arith, c.push_reserved.ensures.capacity, keys.capacity)) (omega (arith, c.push_reserved-2.ensures.capacity, values.capacity))

pub invariant_of-self-2 : goal.invariant_of-self-2
invariant_of-self-2 g c =
    let rea = rw c.data-data.ensures.value at c.reattach.ensures.reattaches in (grown g (goal.at.invariant_of-self-2 g c).After-push_reserved-2).sound_after rea.live c.reattach.ensures.valid.after

pub returns-clause-ok : goal.returns-clause-ok
returns-clause-ok g c = (grown g (goal.at.returns-clause-ok g c).After-push_reserved-2).reattaches (rw c.data-data.ensures.value at c.reattach.ensures.reattaches)

pub returns-clause-valid : goal.returns-clause-valid
returns-clause-valid g c =
    may-grow _ c.self.inside c.self.view_is c.self.invariant c.reattach.new.self c.push_reserved.new.self c.push_reserved-2.new.self _ (λ is. absurd (cc))
    (invariant_of-self-2 g c) c.reattach.ensures.valid.capacity (omega (arith, c.push_reserved.ensures.capacity, c.make_room_in.ensures.capacity))
    (omega (arith, c.push_reserved-2.ensures.capacity, c.make_room_in-2.ensures.capacity))
    (λ in_keys in_values. (c.push_reserved.ensures.capacity ∙ c.make_room_in.ensures.had_room in_keys, c.push_reserved-2.ensures.capacity ∙ c.make_room_in-2.ensures.had_room in_values))

pub returns-then-is_err-clause-err : goal.returns-then-is_err-clause-err
returns-then-is_err-clause-err g c = grind (arith, common_steps)

pub overflow_cast-position : goal.overflow_cast-position
overflow_cast-position g c = grind (arith, common_steps)

pub returns-clause-order : goal.returns-clause-order
returns-clause-order g c = grind (arith, common_steps)

pub push_reserved-requires : goal.push_reserved-requires
push_reserved-requires g c = grind (arith, common_steps)

pub push_reserved-requires-2 : goal.push_reserved-requires-2
push_reserved-requires-2 g c = grind (arith, common_steps)

pub reattach-requires : goal.reattach-requires
reattach-requires g c = grind (arith, common_steps)

pub invariant_of-self : goal.invariant_of-self
invariant_of-self g c = rw c.make_room_in.ensures.keeps c.self.invariant

pub invariant_of-self-then-is_err-2 : goal.invariant_of-self-then-is_err-2
invariant_of-self-then-is_err-2 g c = rw (c.make_room_in.ensures.keeps, c.make_room_in-2.ensures.keeps) c.self.invariant
