use Rattle.slotmap_entities.proofs.Common.{arith, false, key_cmp, left_spent, spent_leaves, rules}
use Rattle.std.specs.FinMap as map
use Rattle.slotmap_entities.proofs.World.clear.Goals as goal

pub returns-clause-for_good : goal.returns-clause-for_good
returns-clause-for_good g c k live =
    left_spent c.self.inside.entities.content _ false (search rules) k (search rules) (rw (← c.self.view_is) at live)
    (grind (arith, map.get-empty {X = g.row.E.Denot} key_cmp k))

pub returns-clause-gone : goal.returns-clause-gone
returns-clause-gone g c = rw (← c.self.view_is) (spent_leaves _ _ (search rules))
