use Rattle.slotmap_scene.proofs.Common.{rules, sym}
use Rattle.slotmap_scene.proofs.{Climbs.has_parent, ChildLists.first_parent}
use Rattle.slotmap_scene.proofs.Scene.first_child.Goals as goal

pub returns-clause-value : goal.returns-clause-value
returns-clause-value g c = search rules

pub returns-clause-child : goal.returns-clause-child
returns-clause-child g c = first_parent (rw c.self.view_is at c.self.invariant) _ _ (sym (returns-clause-value g c))

pub returns-clause-live : goal.returns-clause-live
returns-clause-live g c = has_parent _ _ _ (returns-clause-child g c)
