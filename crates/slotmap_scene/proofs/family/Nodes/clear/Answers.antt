use Rattle.slotmap_scene.proofs.Common.{List, [], ap, arith, length, length-replicate, list_cleared, list_of, ℕ, ◌∙◌}
use Rattle.slotmap_scene.proofs.SceneSteps.{bare_kept, bare_seen, family_leaves, family_valid, forest_memory}
use Rattle.slotmap_scene.proofs.family.Nodes.clear.Goals as goal

pub invariant_of-self : goal.invariant_of-self
invariant_of-self g c =
    let lists = c.self.inside.children.lists in
    bare_kept c.clear.new.self c.clear.ensures.empty c.self.inside.parents.items c.clear-2.new.self
    (λ p. ap (λ l. list_of l p) c.clear-2.ensures ∙ list_cleared c.self.inside.children p)
    (grind (arith, c.self.invariant.covered, c.clear.ensures.bound, c.clear-2.ensures, length-replicate {A = List ℕ} (length lists) []))

pub returns : goal.returns
returns g c =
    let at = c.self.inside in
    rw (← c.self.view_is) (record {
      empty = bare_seen c.clear.new.self c.clear.ensures.empty at.parents.items c.clear-2.new.self;
      leaves = family_leaves at.values at.parents.items at.children c.clear.new.self at.parents.items c.clear-2.new.self c.clear.ensures.leaves;
      valid = family_valid at.values at.parents.items at.children c.clear.ensures.valid.before;
      capacity = forest_memory at.values at.parents.items at.children c.clear.new.self at.parents.items c.clear-2.new.self c.clear.ensures.bound c.clear.ensures.valid.capacity
          (ap (λ l. l.capacity) c.clear-2.ensures) _;
    })
