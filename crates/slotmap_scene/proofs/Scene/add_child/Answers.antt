use Rattle.slotmap_scene.proofs.Scene.add_child.Goals as goal

pub returns-clause-adds : goal.returns-clause-adds
returns-clause-adds g c = rw (← c.self.view_is, c.outer.ensures, ← c.inner-parent.ensures) c.in_ok-add.ensures.adds

pub returns-clause-gains : goal.returns-clause-gains
returns-clause-gains g c = rw (← c.self.view_is, c.outer.ensures, ← c.inner-parent.ensures) c.in_ok-add.ensures.gains

pub returns-clause-stale : goal.returns-clause-stale
returns-clause-stale g c = rw (← c.self.view_is) c.add.ensures.stale
