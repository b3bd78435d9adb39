use Rattle.std.proofs.Common.{◌≡◌}
use Rattle.slotmap_hop.proofs.Common.{sym, ap, ◌∙◌, arith, same_Some, rules, version_in, Occupied, live_key, live_within, can_go_on, iter_on, left_none}
use Rattle.slotmap_hop.proofs.iter.counted.Walk.step.Goals.{After-index-index}
use Rattle.slotmap_hop.proofs.iter.counted.Walk.step.Goals as goal

pub next_live-slot-requires-clause-can : goal.next_live-slot-requires-clause-can
next_live-slot-requires-clause-can g c = can_go_on c.self.invariant

pub overflow_cast-index : goal.overflow_cast-index
overflow_cast-index g c = omega (arith, c.index-index.ensures, (live_key _ _ _ c.self.invariant.stands.sound _ _ _ c.next_live-slot.ensures.found.finds.there).index_fits)

-- the slot that was found
slot_is : (g : _) (c : After-index-index g) → c.again-slot.result.now ≡ Occupied c.next_live-slot.ensures.found.state c.next_live-slot.ensures.found.version c.next_live-slot.ensures.found.value
slot_is g c = let found = c.next_live-slot.ensures in c.again-slot.ensures ∙ same_Some _ _ (sym found.slot ∙ found.found.is)

pub exact-requires : goal.exact-requires
exact-requires g c =
    let found = c.next_live-slot.ensures.found in
    rw (c.index-index.ensures, c.version.ensures ∙ ap version_in (slot_is g (goal.at.exact-requires g c).After-index-index)) (live_key _ _ _ c.self.invariant.stands.sound _ _ _ found.finds.there)

pub invariant_of-self : goal.invariant_of-self
invariant_of-self g c =
    let found = c.next_live-slot.ensures in let pass = c.pass.ensures in rw (pass.slots, pass.index, pass.reads, found.slots) (iter_on c.self.invariant found.found.finds found.reads)

pub pass-requires : goal.pass-requires
pass-requires g c = let found = c.next_live-slot.ensures in rw found.slots (live_within _ _ _ c.self.invariant.stands.sound _ _ _ found.found.finds.there)

pub returns-clause-some : goal.returns-clause-some
returns-clause-some g c = search (rules, arith, live_key, slot_is)

pub returns-then-self-eq0-clause-none : goal.returns-then-self-eq0-clause-none
returns-then-self-eq0-clause-none g c = ap (λ w. w.rest) (sym c.self.view_is) ∙ left_none c.self.invariant c.if-self-eq0.true
