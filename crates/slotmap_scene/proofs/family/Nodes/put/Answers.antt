use Rattle.slotmap_scene.proofs.{Common.arith, Common.refl, Common.set, Placing.parent_alive}
use Rattle.slotmap_scene.proofs.SceneSteps.{came_inserts, came_kept, family_valid, forest_memory}
use Rattle.slotmap_scene.proofs.family.Nodes.put.Goals as goal

pub invariant_of-self : goal.invariant_of-self
invariant_of-self g c = came_kept c.self.invariant c.insert_reserved-key.result c.args.value c.insert_reserved-key.new.self
    c.insert_reserved-key.ensures.inserts c.capacity.ensures.valid
    c.insert_reserved-key.ensures.valid.after c.insert_reserved-key.ensures.bound c.insert_reserved-key.ensures.within c.args.parent
    (parent_alive c.self.invariant c.self.view_is c.args.parent c.requires.parent)
    (set c.self.inside.parents.items c.index_of.result c.parent_index.result)
    (λ n. set c.self.inside.parents.items (c.index_of.ensures n) (c.parent_index.ensures n))

pub returns-clause-adds : goal.returns-clause-adds
returns-clause-adds g c = rw (← c.self.view_is)
    (came_inserts c.self.invariant c.insert_reserved-key.result c.args.value c.insert_reserved-key.new.self c.insert_reserved-key.ensures.inserts
    c.capacity.ensures.valid
    c.insert_reserved-key.ensures.valid.after c.insert_reserved-key.ensures.bound c.insert_reserved-key.ensures.within c.args.parent
    (parent_alive c.self.invariant c.self.view_is c.args.parent c.requires.parent)
    (set c.self.inside.parents.items c.index_of.result c.parent_index.result)
    (λ n. set c.self.inside.parents.items (c.index_of.ensures n) (c.parent_index.ensures n)))

pub returns-clause-capacity : goal.returns-clause-capacity
returns-clause-capacity g c = rw (← c.self.view_is) (forest_memory c.self.inside.values c.self.inside.parents.items c.self.inside.children c.insert_reserved-key.new.self
    (set c.self.inside.parents.items c.index_of.result c.parent_index.result) c.self.inside.children c.insert_reserved-key.ensures.bound c.insert_reserved-key.ensures.valid.capacity
    refl _)

pub returns-clause-valid : goal.returns-clause-valid
returns-clause-valid g c = grind (arith, family_valid c.self.inside.values c.self.inside.parents.items c.self.inside.children c.capacity.ensures.valid, c.capacity.ensures.valid)
