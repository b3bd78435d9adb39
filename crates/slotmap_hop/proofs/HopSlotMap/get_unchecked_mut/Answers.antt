use Rattle.slotmap_hop.proofs.Common.{refl, ap, ◌∙◌, arith, well_formed, held, Present, version_read, slot_read, read_gives, sound-rewritten, content-rewritten}
use Rattle.slotmap_hop.proofs.HopSlotMap.get_unchecked_mut.Goals.{After-self}
use Rattle.slotmap_hop.proofs.HopSlotMap.get_unchecked_mut.Goals as goal

found : (g : _) (c : After-self g) → Present c.self.inside.slots.items c.args.self.now.content.live (g.K.Key.data_of c.args.key) c.idx-index.result (g.K.Key.data_of c.args.key).version
found g c = held c.self.inside c.self.view_is c.self.invariant _ _ _ (c.idx-index.ensures.value ∙ ap (λ k. k.index) c.data.ensures.value) refl c.requires

pub index_mut-requires : goal.index_mut-requires
index_mut-requires g c = omega (arith, (found g (goal.at.index_mut-requires g c).After-self).within, c.self.inside.slots.ok.0)

pub rule_out-requires : goal.rule_out-requires
rule_out-requires g c = let found = found g (goal.at.rule_out-requires g c).After-self in absurd (c.in_default.not-Occupied _ _ found.value (slot_read found _ c.index_mut.ensures.value))

pub invariant_of-self-lent : goal.invariant_of-self-lent
invariant_of-self-lent g c w =
    let found = found g (goal.at.invariant_of-self-lent g c).After-self in
    rw c.in-Occupied.is (sound-rewritten _ _ _ c.self.invariant _ _ _ found.index _ _ (version_read found _ c.index_mut.ensures.value _ _ _ c.in-Occupied.is) w)

pub returns : goal.returns
returns g c =
    let found = found g (goal.at.returns g c).After-self in
    let version = version_read found _ c.index_mut.ensures.value _ _ _ c.in-Occupied.is in
    let value = read_gives found _ c.index_mut.ensures.value _ _ _ c.in-Occupied.is in
    rw c.in-Occupied.is ((
      (refl, λ w. rw (← c.self.view_is, found.key_is_at) (content-rewritten _ _ _ c.self.invariant _ _ _ found.index _ _ version w _)),
      record { writes_back = tt; valid = well_formed c.self.inside c.self.view_is c.self.invariant; value = value },
    ))
