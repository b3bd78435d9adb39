use Rattle.std.proofs.Common.{◌-◌, ◌^◌}
use Rattle.slotmap_scheduler.proofs.{Common.index_after, Visiting.Visiting}
use Rattle.slotmap_scheduler.proofs.Scheduler.retain.Given as goal

abbrev pub invariant-loop-next : goal.invariant-loop-next
invariant-loop-next g l = Visiting g.F.FnMut g.K.Key.data_of l.fn.self l.fn.f l.self (index_after (λ k. k) l.last) l.f

abbrev pub decreases-loop-next : goal.decreases-loop-next
decreases-loop-next g l = 2 ^ 32 - index_after (λ k. k) l.last
