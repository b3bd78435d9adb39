use Rattle.slotmap_scene.proofs.Common.{parent_of, rules, siblings_of, sym}
use Rattle.slotmap_scene.proofs.ChildLists.{behind_listed, under_live, under_parent}
use Rattle.slotmap_scene.proofs.Scene.next_sibling.Goals as goal

pub returns-clause-value : goal.returns-clause-value
returns-clause-value g c = search rules

pub returns-clause-live : goal.returns-clause-live
returns-clause-live g c =
    let nodes = c.args.self.now.nodes.live in
    let node = g.K.Key.data_of c.args.node in
    under_live (rw c.self.view_is at c.self.invariant) (parent_of nodes node) _ (behind_listed node _ (siblings_of nodes node) (sym (returns-clause-value g c)))

pub returns-clause-same_parent : goal.returns-clause-same_parent
returns-clause-same_parent g c =
    let nodes = c.args.self.now.nodes.live in
    let node = g.K.Key.data_of c.args.node in
    under_parent (rw c.self.view_is at c.self.invariant) (parent_of nodes node) _ (behind_listed node _ (siblings_of nodes node) (sym (returns-clause-value g c)))
