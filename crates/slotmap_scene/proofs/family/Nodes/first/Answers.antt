use Rattle.slotmap_scene.proofs.Common.{arith, first_in, sym, ◌∙◌}
use Rattle.slotmap_scene.proofs.Families.{has_if, indices_at, owner_below, first_seen}
use Rattle.slotmap_scene.proofs.family.Nodes.first.Goals as goal

pub first-requires : goal.first-requires
first-requires g c = rw (c.owner.ensures, ← c.self.view_is) (owner_below c.self.invariant c.args.node)

pub key_of-requires : goal.key_of-requires
key_of-requires g c =
    record { indices = c.self.invariant.indices; there = has_if c.self.invariant (indices_at c.self.invariant c.owner.result) _ (λ i at. first_in _ i (sym c.first.ensures ∙ at)) }

pub returns : goal.returns
returns g c = grind (arith, first_seen c.self.invariant c.args.node, c.key_of.ensures, c.first.ensures, c.owner.ensures, c.self.invariant)
