use Rattle.slotmap_scene.proofs.Common.{Node, ap, is_some, key_cmp, left_spent, spent_leaves, true, ◌∙◌}
use Rattle.std.specs.FinMap as map
use Rattle.slotmap_scene.proofs.Scene.clear.Goals as goal

pub returns-clause-for_good : goal.returns-clause-for_good
returns-clause-for_good g c k live =
    let none = ap (λ m. map.contains_key m k) c.clear.ensures.empty ∙ ap is_some (map.get-empty {X = Node g.row.T.Denot} key_cmp k) in
    left_spent c.self.inside.nodes.nodes c.clear.new.self.nodes true c.clear.ensures.valid k c.clear.ensures.leaves (rw (← c.self.view_is) at live) none

pub returns-clause-stale : goal.returns-clause-stale
returns-clause-stale g c = rw (← c.self.view_is) (spent_leaves _ _ c.clear.ensures.leaves)
