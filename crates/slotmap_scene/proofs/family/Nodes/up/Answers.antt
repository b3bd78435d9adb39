use Rattle.slotmap_scene.proofs.Common.{arith, sym}
use Rattle.slotmap_scene.proofs.Placing.{place_there, up_has, up_is, up_none}
use Rattle.slotmap_scene.proofs.family.Nodes.up.Goals as goal

pub parent_number-parent-requires : goal.parent_number-parent-requires
parent_number-parent-requires g c = rw c.deref.ensures.value (place_there c.self.invariant c.self.view_is c.args.node c.requires)

pub returns-then-parent-eq-NOBODY : goal.returns-then-parent-eq-NOBODY
returns-then-parent-eq-NOBODY g c =
    sym (up_none c.self.invariant c.self.view_is c.args.node c.requires _ (rw c.deref.ensures.value at c.parent_number-parent.ensures)
    (let test = c.if-parent-eq-NOBODY.true in omega arith))

pub live_key-requires : goal.live_key-requires
live_key-requires g c =
    up_has c.self.invariant c.self.view_is c.args.node c.requires _ (rw c.deref.ensures.value at c.parent_number-parent.ensures)
    (λ none. (let test = c.if-parent-eq-NOBODY.false in absurd (omega arith)))

pub returns : goal.returns
returns g c = sym (up_is c.self.invariant c.self.view_is c.args.node c.requires _ (rw c.deref.ensures.value at c.parent_number-parent.ensures)
    (λ none. (let test = c.if-parent-eq-NOBODY.false in absurd (omega arith))) c.live_key.result c.live_key.ensures.live c.live_key.ensures.index)
