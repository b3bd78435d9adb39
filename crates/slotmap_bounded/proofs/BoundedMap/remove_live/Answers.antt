use Rattle.std.proofs.Common.{true, ap, is_some, arith, ◌∙◌}
use Rattle.slotmap.proofs.Callers.{leaves_by_removal, of_some, len_removed, keys_total, exact_keys}
use Rattle.std.specs.FinMap as map
use Rattle.slotmap_bounded.proofs.BoundedMap.remove_live.Goals as goal

pub returns-clause-leaves : goal.returns-clause-leaves
returns-clause-leaves g c = leaves_by_removal true c.args.self.now c.remove.ensures.valid.before (g.K.Key.data_of c.args.key) c.requires c.remove.new.self
    (of_some _ c.remove.result (ap is_some c.remove.ensures.value ∙ c.requires) c.remove.ensures.removes)

pub returns-clause-fewer : goal.returns-clause-fewer
returns-clause-fewer g c = omega (arith, len_removed keys_total exact_keys c.args.self.now.live (g.K.Key.data_of c.args.key) c.requires, ap map.len c.remove.ensures.live)
