use Rattle.slotmap_hop.proofs.Common.{refl, ap, ◌∙◌, arith, held, Present, slot_read, read_gives}
use Rattle.slotmap_hop.proofs.HopSlotMap.get_unchecked.Goals.{After-self}
use Rattle.slotmap_hop.proofs.HopSlotMap.get_unchecked.Goals as goal

found : (g : _) (c : After-self g) → Present c.self.inside.slots.items c.args.self.now.content.live (g.K.Key.data_of c.args.key) c.idx-index.result (g.K.Key.data_of c.args.key).version
found g c = held c.self.inside c.self.view_is c.self.invariant _ _ _ (c.idx-index.ensures.value ∙ ap (λ k. k.index) c.data.ensures.value) refl c.requires

pub index-requires : goal.index-requires
index-requires g c = omega (arith, (found g (goal.at.index-requires g c).After-self).within, c.self.inside.slots.ok.0)

pub rule_out-requires : goal.rule_out-requires
rule_out-requires g c = let found = found g (goal.at.rule_out-requires g c).After-self in absurd (c.in_default.not-Occupied _ _ found.value (slot_read found _ c.index.ensures))

pub returns-clause-value : goal.returns-clause-value
returns-clause-value g c = read_gives (found g (goal.at.returns-clause-value g c).After-self) _ c.index.ensures _ _ _ c.in-Occupied.is
