use Rattle.std.proofs.Common.{arith}
use Rattle.slotmap.proofs.Callers.{keys_differ}
use Rattle.slotmap_examples.proofs.runs.two_keys.Goals as goal

pub returns : goal.returns
returns g c = record { differ = keys_differ (λ k. k) _ 0 2 _ _ c.in-Ok-made.ensures.laws.no_key_twice (omega arith) c.in_ok-key_at.ensures c.in_ok-key_at-2.ensures }
