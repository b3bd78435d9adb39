use Rattle.slotmap_c.proofs.GuardLemmas.{after_last}
use Rattle.slotmap_c.proofs.guards.maps.next_finds_no_key_after_the_last.Goals as goal

pub returns : goal.returns
returns c = after_last c.slotmap_next.ensures.says
