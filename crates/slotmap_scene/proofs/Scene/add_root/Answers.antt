use Rattle.slotmap_scene.proofs.Moved.{root_added}
use Rattle.slotmap_scene.proofs.Scene.add_root.Goals as goal

pub invariant_of-self : goal.invariant_of-self
invariant_of-self g c = let made = c.insert.ensures in
    root_added c.self.inside.nodes.nodes c.insert.new.self.nodes c.self.invariant c.args.value c.insert.result made.adds made.fresh made.unchanged

pub invariant_of-self-2 : goal.invariant_of-self-2
invariant_of-self-2 g c = let made = c.insert.ensures in
    root_added c.self.inside.nodes.nodes c.insert.new.self.nodes c.self.invariant c.args.value c.insert.result made.adds made.fresh made.unchanged

pub returns-clause-stale : goal.returns-clause-stale
returns-clause-stale g c = rw (← c.self.view_is) c.insert.ensures.stale
