use Rattle.slotmap_secondary.proofs.Common.{value_at, refl, ◌∙◌, arith, eq-eqb, is_some, cond, Some, slice_get_within, pair_in, IsSound-again, content-write, same_read, same_value, well_formed}
use Rattle.slotmap_secondary.proofs.Common.{sym, ap, None, here}
use Rattle.slotmap_secondary.proofs.SecondaryMap.value_at.Goals as goal

pub index_mut-requires : goal.index_mut-requires
index_mut-requires g c =
    let slot = here _ _ (ap (λ m. m.pairs) c.self.view_is) _ _ c.data.ensures.value c.requires.there in
    omega (arith, slice_get_within c.self.inside.slots.items _ _ slot.there, c.self.inside.slots.ok.0, c.requires.at, ap (λ k. k.index) c.data.ensures.value)

pub value_mut-requires : goal.value_mut-requires
value_mut-requires g c =
    let slot = here _ _ (ap (λ m. m.pairs) c.self.view_is) _ _ c.data.ensures.value c.requires.there in
    let read = same_read c.self.inside.slots.items _ _ _ _ (sym c.requires.at ∙ ap (λ k. k.index) (sym c.data.ensures.value)) c.index_mut.ensures.value slot.there in
    ap (λ s. is_some (value_at c.version-version.result (pair_in s))) read
    ∙ ap (λ b. is_some (cond b (Some slot.value) None)) (eq-eqb _ _ (sym c.version-version.ensures.value))

pub invariant_of-self-lent : goal.invariant_of-self-lent
invariant_of-self-lent g c w =
    let slot = here _ _ (ap (λ m. m.pairs) c.self.view_is) _ _ c.data.ensures.value c.requires.there in
    rw (sym c.requires.at ∙ ap (λ k. k.index) (sym c.data.ensures.value), c.version-version.ensures.value) (IsSound-again _ _ c.self.invariant _ _ w slot.there c.data.ensures.valid)

pub returns : goal.returns
returns g c =
    let slot = here _ _ (ap (λ m. m.pairs) c.self.view_is) _ _ c.data.ensures.value c.requires.there in
    let read = same_read c.self.inside.slots.items _ _ _ _ (sym c.requires.at ∙ ap (λ k. k.index) (sym c.data.ensures.value)) c.index_mut.ensures.value slot.there in (
      (
        refl,
        λ w. rw (
          ← c.self.view_is,
          ← c.data.ensures.value,
          sym c.requires.at
              ∙ ap (λ k. k.index) (sym c.data.ensures.value),
          c.version-version.ensures.value,
        ) (content-write c.self.inside.slots.items _ _ _ w slot.there),
      ),
      record { writes_back = tt; value = slot.gives ∙ same_value _ _ _ _ (sym (ap pair_in read) ∙ c.value_mut.ensures.value); valid = well_formed c.self.inside _ c.self.view_is c.self.invariant },
    )
