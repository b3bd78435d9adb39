use Rattle.slotmap_scene.proofs.Common.{Some, ap, key_is, sym}
use Rattle.slotmap_scene.proofs.links.key_of.Goals as goal

pub live_key-requires : goal.live_key-requires
live_key-requires g c = rw c.in_ok-index.was at c.requires.there

pub returns : goal.returns
returns g c = rw c.in_ok-index.was (ap Some (sym (key_is c.requires.indices c.in_ok-index.index c.live_key.result c.live_key.ensures.live c.live_key.ensures.index)))
