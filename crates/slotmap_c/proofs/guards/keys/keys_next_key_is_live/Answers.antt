use Rattle.slotmap_c.proofs.GuardLemmas.{key_found}
use Rattle.slotmap_c.proofs.guards.keys.keys_next_key_is_live.Goals as goal

pub returns : goal.returns
returns c = key_found c.slotmap_keys_next.ensures.says
