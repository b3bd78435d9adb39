use Rattle.slotmap_scene.proofs.{Common.sym, Common.◌∙◌, Moved.moved_nowhere}
use Rattle.slotmap_scene.proofs.Scene.make_root.Goals as goal

pub returns-then-not-contains_key-clause-trees : goal.returns-then-not-contains_key-clause-trees
returns-then-not-contains_key-clause-trees g c =
    rw (← c.self.view_is, ← c.inner-node.ensures)
    (moved_nowhere c.self.inside.nodes.nodes.live c.self.invariant c.inner-node.result (sym c.contains_key.ensures.value ∙ c.if-not-contains_key.true) (λ ks. ks))
