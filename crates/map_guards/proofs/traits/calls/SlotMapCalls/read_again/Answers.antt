use Rattle.std.proofs.Common.{inl, arith}
use Rattle.map_guards.proofs.traits.calls.SlotMapCalls.read_again.Goals as goal

pub returns-clause-clones : goal.returns-clause-clones
returns-clause-clones g c key = grind (arith, c.in-Ok.ensures.contents key, c.in-Ok-from_slots.ensures.reads.starts.live)

pub returns-clause-next : goal.returns-clause-next
returns-clause-next g c equal index version is =
    let law = c.in-Ok-from_slots.ensures.reads.restores _ _ c.in-Ok.ensures.valid (c.in-Ok.ensures.writes_if_clones_equal equal) in (law.next index version).1 (inl is)
