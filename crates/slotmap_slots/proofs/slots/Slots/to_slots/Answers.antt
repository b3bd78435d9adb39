use Rattle.slotmap_slots.proofs.Common.{true, arith, writes_clones, clones_contents, equal_writes, equal_contents, writes-stack, settled_valid, records-next, records-all, stacked_free}
use Rattle.slotmap_slots.proofs.slots.Slots.to_slots.Goals as goal

pub loop-index-preserved : goal.loop-index-preserved
loop-index-preserved g c = grind (arith, records-next)

pub returns-clause-writes : goal.returns-clause-writes
returns-clause-writes g c =
    let slots = g.L.Layout.slots c.self.inside.layout in
    let all = records-all slots c.loop-index.index (omega (arith, c.loop-index-test.false, c.len-index-end.ensures)) in
    writes_clones _ true _ (settled_valid c.self.invariant c.self.view_is) _ (rw (← c.self.view_is) (writes-stack _ (stacked_free c.self.invariant.sound)))
    _ (rw all at c.loop-index.invariant.written)

pub returns-clause-contents : goal.returns-clause-contents
returns-clause-contents g c = clones_contents _ true _ _ (returns-clause-writes g c)

pub returns-clause-writes_if_clones_equal : goal.returns-clause-writes_if_clones_equal
returns-clause-writes_if_clones_equal g c = equal_writes _ true _ _ (returns-clause-writes g c)

pub returns-clause-contents_if_clones_equal : goal.returns-clause-contents_if_clones_equal
returns-clause-contents_if_clones_equal g c = equal_contents _ true _ _ (returns-clause-writes g c)
