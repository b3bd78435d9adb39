use Rattle.slotmap_core.proofs.Common.{rules}
use Rattle.slotmap_basic.proofs.access.SlotMapIndex.index.Goals as goal

pub get_unchecked-requires : goal.get_unchecked-requires
get_unchecked-requires g c = search rules
