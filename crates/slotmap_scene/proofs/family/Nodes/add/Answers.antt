use Rattle.slotmap_scene.proofs.Common.{IfSome_then, put_in_place}
use Rattle.slotmap_scene.proofs.Moved.{came_alone, came_sibling, came_there, child_gained, child_inserts, child_scene, child_spent, nodes_alike, times_put}
use Rattle.slotmap_scene.proofs.family.Nodes.add.Goals as goal

pub attach-requires-clause-parent : goal.attach-requires-clause-parent
attach-requires-clause-parent g c = came_there c.requires.scene c.in_ok-key.ensures.fresh c.requires.parent c.in_ok-key.ensures.adds

pub attach-requires-clause-sibling : goal.attach-requires-clause-sibling
attach-requires-clause-sibling g c =
    IfSome_then c.args.sibling c.requires.sibling (came_sibling c.requires.scene c.in_ok-key.ensures.fresh c.requires.parent c.in_ok-key.ensures.adds)

pub attach-requires-clause-alone : goal.attach-requires-clause-alone
attach-requires-clause-alone g c = came_alone c.requires.scene c.in_ok-key.ensures.fresh c.requires.parent c.in_ok-key.ensures.adds

pub returns-clause-adds : goal.returns-clause-adds
returns-clause-adds g c =
    child_inserts c.requires.scene c.in_ok-key.ensures.fresh c.requires.parent c.in_ok-key.ensures.adds (put_in_place c.args.side c.args.sibling c.in_ok-key.key) (nodes_alike c.attach.ensures)

pub returns-clause-gains : goal.returns-clause-gains
returns-clause-gains g c =
    child_gained c.requires.scene c.in_ok-key.ensures.fresh c.requires.parent c.in_ok-key.ensures.adds (put_in_place c.args.side c.args.sibling c.in_ok-key.key) (nodes_alike c.attach.ensures)

pub returns-clause-scene : goal.returns-clause-scene
returns-clause-scene g c =
    child_scene c.requires.scene c.in_ok-key.ensures.fresh c.requires.parent c.in_ok-key.ensures.adds (put_in_place c.args.side c.args.sibling c.in_ok-key.key) (nodes_alike c.attach.ensures)
    (λ x ks. times_put c.in_ok-key.key x c.args.side c.args.sibling ks)

pub returns-clause-stale : goal.returns-clause-stale
returns-clause-stale g c =
    child_spent c.requires.scene c.in_ok-key.ensures.fresh c.requires.parent c.in_ok-key.ensures.adds (put_in_place c.args.side c.args.sibling c.in_ok-key.key)
    (nodes_alike c.attach.ensures) c.insert.ensures.stale
