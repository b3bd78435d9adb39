use Rattle.std.proofs.Common.{◌≡◌}
use Rattle.slotmap_scene.proofs.{Common.arith, Moved.listed_once}
use Rattle.slotmap_scene.proofs.Placing.{left, left_below, left_listed, left_none, place_there}
use Rattle.slotmap_scene.proofs.family.Nodes.leave.Goals as goal

pub parent_number-parent-requires : goal.parent_number-parent-requires
parent_number-parent-requires g c = rw c.deref.ensures.value (place_there c.self.invariant c.self.view_is c.args.node c.requires.there)

pub take_out-requires : goal.take_out-requires
take_out-requires g c =
    let some = λ (none : c.parent_number-parent.result ≡ 0). (let test = c.if-parent-ne-NOBODY.true in absurd (omega arith)) in
    record {
      parent = left_below c.self.invariant c.self.view_is c.args.node c.requires.there _ (rw c.deref.ensures.value at c.parent_number-parent.ensures) some;
      child = left_listed c.self.invariant c.self.view_is c.args.node c.requires.there _ (rw c.deref.ensures.value at c.parent_number-parent.ensures) some
          (λ p own. listed_once c.args.self.now.nodes.live c.requires.scene.listed p c.args.node own);
    }

pub invariant_of-self : goal.invariant_of-self
invariant_of-self g c = (left c.self.invariant c.self.view_is c.args.node c.requires.there _ (rw c.deref.ensures.value at c.parent_number-parent.ensures)
    (λ none. (let test = c.if-parent-ne-NOBODY.true in absurd (omega arith))) c.take_out.new.children c.take_out.ensures.list c.take_out.ensures.disjoint).0

pub returns-then-parent-ne-NOBODY : goal.returns-then-parent-ne-NOBODY
returns-then-parent-ne-NOBODY g c = (left c.self.invariant c.self.view_is c.args.node c.requires.there _ (rw c.deref.ensures.value at c.parent_number-parent.ensures)
    (λ none. (let test = c.if-parent-ne-NOBODY.true in absurd (omega arith))) c.take_out.new.children c.take_out.ensures.list c.take_out.ensures.disjoint).1

pub returns-else-parent-ne-NOBODY : goal.returns-else-parent-ne-NOBODY
returns-else-parent-ne-NOBODY g c =
    left_none c.self.invariant c.self.view_is c.args.node c.requires.there _ (rw c.deref.ensures.value at c.parent_number-parent.ensures) (let test = c.if-parent-ne-NOBODY.false in omega arith)
