use Rattle.std.proofs.Common.{arith, ap, slice_get}
use Rattle.slotmap.proofs.Callers.{detached_bound, stays_detached}
use Rattle.slotmap_examples.proofs.runs.bind_detached.Goals as goal

pub returns : goal.returns
returns g c =
    let kept = stays_detached (λ k. k) c.in-Ok.commands.items c.in-Ok-made.replies.items 1 3 c.args.key (rw c.in-Ok.ensures.items (tt, tt)) in
    record {
      bound = c.is_done.ensures (detached_bound (λ k. k) _ _ 1 3 c.args.key _ 9 _ (rw c.requires at c.in-Ok-made.ensures.laws.reattaches) (omega arith) kept
          (ap (λ l. slice_get l 1) c.in-Ok.ensures.items) (ap (λ l. slice_get l 3) c.in-Ok.ensures.items) c.in_ok-_value.ensures c.in_ok-last.ensures);
    }
