use Rattle.slotmap_scene.proofs.Common.{arith, last_in, list_of, sym, ◌∙◌}
use Rattle.slotmap_scene.proofs.Families.{has_if, indices_at, owner_below, last_seen}
use Rattle.slotmap_scene.proofs.family.Nodes.last.Goals as goal

pub last-requires : goal.last-requires
last-requires g c = rw (c.owner.ensures, ← c.self.view_is) (owner_below c.self.invariant c.args.node)

pub key_of-requires : goal.key_of-requires
key_of-requires g c = record {
  indices = c.self.invariant.indices;
  there = has_if c.self.invariant (indices_at c.self.invariant c.owner.result) c.last.result
      (λ i at. last_in (list_of c.self.inside.children c.owner.result) i (sym c.last.ensures ∙ at));
}

pub returns : goal.returns
returns g c = grind (arith, last_seen c.self.invariant c.args.node, c.key_of.ensures, c.last.ensures, c.owner.ensures, c.self.invariant)
