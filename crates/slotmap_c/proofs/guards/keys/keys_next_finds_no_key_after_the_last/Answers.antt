use Rattle.slotmap_c.proofs.GuardLemmas.{key_after_last}
use Rattle.slotmap_c.proofs.guards.keys.keys_next_finds_no_key_after_the_last.Goals as goal

pub returns : goal.returns
returns c = key_after_last c.slotmap_keys_next.ensures.says
