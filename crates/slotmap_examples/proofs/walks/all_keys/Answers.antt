use Rattle.std.specs.FinMap as map
use Rattle.std.proofs.lemmas.Iterator.{items_from_collect}
use Rattle.std.proofs.lemmas.Iterator.Consumers.{YieldsList-from_first}
use Rattle.slotmap_examples.proofs.walks.all_keys.Goals as goal

pub returns : goal.returns
returns c = items_from_collect _ c.collect.ensures.ran (YieldsList-from_first _ _ (map.keys c.args.store.now.live) c.keys.ensures.in_order)
