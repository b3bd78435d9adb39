use Rattle.slotmap_c.proofs.GuardLemmas.{found}
use Rattle.slotmap_c.proofs.guards.maps.next_value_is_the_keys.Goals as goal

pub returns : goal.returns
returns c = found c.slotmap_next.ensures.says
