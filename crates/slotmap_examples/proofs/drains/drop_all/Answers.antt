use Rattle.std.proofs.Common.{rules}
use Rattle.slotmap_examples.proofs.drains.drop_all.Goals as goal

pub returns : goal.returns
returns g c =
    let kept = c.drain-items.ensures.stays c.loop.yielded c.loop.iterator' (rw c.into_iter-iterator.ensures.into_iter_gives at c.loop.yielded_by) in
    search rules
