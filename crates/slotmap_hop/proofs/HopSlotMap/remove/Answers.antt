use Rattle.slotmap_hop.proofs.Common.{sym, keys_total, exact_keys, none_of, remove_absent}
use Rattle.slotmap_hop.proofs.HopSlotMap.remove.Goals as goal

pub returns-in_err-live_index-clause-live : goal.returns-in_err-live_index-clause-live
returns-in_err-live_index-clause-live g c = sym (remove_absent keys_total exact_keys c.args.self.now.content.live _ (none_of _ c.in_err-live_index.ensures.absent))
