use Rattle.slotmap_scheduler.proofs.Common.{arith}
use Rattle.slotmap_scheduler.proofs.Visiting.{shown_there, visiting_dropped, visiting_end, visiting_kept, visiting_start, visiting_takes, written_waits}
use Rattle.slotmap_scheduler.proofs.Scheduler.retain.Goals as goal

pub loop-next-init : goal.loop-next-init
loop-next-init g c = visiting_start g.F.FnMut g.K.Key.data_of c.args.self.now c.args.f

pub f-stays-requires : goal.f-stays-requires
f-stays-requires g c = grind (arith, visiting_takes, shown_there, c.loop-next.invariant, c.in-Some.ensures.there, c.job_mut.ensures.job, c.in-Some.ensures.behind)

pub reject-requires : goal.reject-requires
reject-requires g c = written_waits c.loop-next.invariant _ _ c.in-Some.ensures.there.1 _

pub loop-next-preserved-then-not-stays : goal.loop-next-preserved-then-not-stays
loop-next-preserved-then-not-stays g c =
    let r = c.reject.ensures in
    rw c.inner.ensures (visiting_dropped c.loop-next.invariant c.in-Some.next.0 c.in-Some.next.1 _ (shown_there c.loop-next.invariant _ _ _ c.in-Some.ensures.there c.job_mut.ensures.job)
    c.in-Some.ensures.behind c.f-stays.ensures c.in-Some.ensures.least c.if-not-stays.true r.removed r.for_good r.turns r.capacity r.leaves r.stale)

pub loop-next-preserved : goal.loop-next-preserved
loop-next-preserved g c =
    rw c.inner.ensures (visiting_kept c.loop-next.invariant c.in-Some.next.0 c.in-Some.next.1 _ (shown_there c.loop-next.invariant _ _ _ c.in-Some.ensures.there c.job_mut.ensures.job)
    c.in-Some.ensures.behind c.f-stays.ensures c.in-Some.ensures.least c.if-not-stays.false)

pub returns-clause-retained : goal.returns-clause-retained
returns-clause-retained g c = visiting_end c.loop-next.invariant c.len.ensures.once c.in_default.ensures.none
