use Rattle.slotmap_secondary.proofs.Common.{sym, ap, ◌∙◌, arith, is_some, option_map, slice_get_within, pair_in, here, same_read, well_formed}
use Rattle.slotmap_secondary.proofs.SecondaryMap.get_unchecked.Goals as goal

pub index-requires : goal.index-requires
index-requires g c =
    let slot = here _ _ (ap (λ m. m.pairs) c.self.view_is) _ _ c.data.ensures.value c.requires in
    omega (arith, slice_get_within c.self.inside.slots.items _ _ slot.there, c.self.inside.slots.ok.0, c.idx.ensures.value)

pub held-requires : goal.held-requires
held-requires g c =
    let slot = here _ _ (ap (λ m. m.pairs) c.self.view_is) _ _ c.data.ensures.value c.requires in
    ap (λ s. is_some (pair_in s)) (same_read c.self.inside.slots.items _ _ _ _ c.idx.ensures.value c.index.ensures slot.there)

pub returns-clause-value : goal.returns-clause-value
returns-clause-value g c =
    let slot = here _ _ (ap (λ m. m.pairs) c.self.view_is) _ _ c.data.ensures.value c.requires in
    slot.gives ∙ sym (ap (λ s. option_map (λ p. p.1) (pair_in s)) (same_read c.self.inside.slots.items _ _ _ _ c.idx.ensures.value c.index.ensures slot.there)) ∙ c.held.ensures

pub returns-clause-valid : goal.returns-clause-valid
returns-clause-valid g c = well_formed c.self.inside _ c.self.view_is c.self.invariant
