use Rattle.std.proofs.Common.{refl}
use Rattle.slotmap_list.proofs.Visiting.{retaining_start, retaining_stands, retaining_takes, retaining_kept, retaining_dropped, kept_less, dropped_less, written_stands, retaining_end}
use Rattle.slotmap_list.proofs.StableList.retain.Goals as goal

pub loop-at-init : goal.loop-at-init
loop-at-init g c = retaining_start g.F.FnMut g.K.Key.data_of c.args.self.now c.args.f _ c.first-at.ensures

pub value_mut-requires : goal.value_mut-requires
value_mut-requires g c = retaining_stands (rw c.in-Some.is at c.loop-at.invariant) c.after-at.ensures.once

pub f-stays-requires : goal.f-stays-requires
f-stays-requires g c = retaining_takes (rw c.in-Some.is at c.loop-at.invariant) c.after-at.ensures.once refl c.value_mut.ensures.value c.requires

pub reject-requires : goal.reject-requires
reject-requires g c = written_stands (rw c.in-Some.is at c.loop-at.invariant) c.after-at.ensures.once refl c.value_mut.ensures.value c.f-stays.ensures c.after-at.ensures.value

pub loop-at-smaller-then-not-stays : goal.loop-at-smaller-then-not-stays
loop-at-smaller-then-not-stays g c =
    rw c.in-Some.is (dropped_less (rw c.in-Some.is at c.loop-at.invariant) c.after-at.ensures.once refl c.value_mut.ensures.value c.f-stays.ensures c.after-at.ensures.value c.reject.ensures.removed)

pub loop-at-preserved-then-not-stays : goal.loop-at-preserved-then-not-stays
loop-at-preserved-then-not-stays g c =
    retaining_dropped (rw c.in-Some.is at c.loop-at.invariant) c.after-at.ensures.once refl c.value_mut.ensures.value c.f-stays.ensures c.after-at.ensures.value
    c.if-not-stays.true c.reject.ensures.removed c.reject.ensures.for_good c.reject.ensures.gone c.reject.ensures.leaves c.reject.ensures.capacity

pub loop-at-smaller : goal.loop-at-smaller
loop-at-smaller g c = rw c.in-Some.is (kept_less (rw c.in-Some.is at c.loop-at.invariant) c.after-at.ensures.once refl c.value_mut.ensures.value c.f-stays.ensures c.after-at.ensures.value)

pub loop-at-preserved : goal.loop-at-preserved
loop-at-preserved g c = retaining_kept (rw c.in-Some.is at c.loop-at.invariant) c.after-at.ensures.once refl c.value_mut.ensures.value c.f-stays.ensures c.after-at.ensures.value c.if-not-stays.false

pub returns-clause-retained : goal.returns-clause-retained
returns-clause-retained g c = (c.loop-at.f, retaining_end g.F.FnMut g.K.Key.data_of c.args.self.now c.args.f _ _ (rw c.in_default.is at c.loop-at.invariant))
