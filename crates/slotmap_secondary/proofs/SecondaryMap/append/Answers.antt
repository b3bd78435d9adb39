use Rattle.std.proofs.Common.{◌≡◌}
use Rattle.slotmap_secondary.proofs.Common.{common_steps, length, sym, ap, ◌∙◌, arith, count, valid, IsSound-append, content-append}
use Rattle.slotmap_secondary.proofs.SecondaryMap.append.Goals as goal

pub overflow_add-self : goal.overflow_add-self
overflow_add-self g c = omega (arith, count c.self.inside.slots.items, c.self.invariant.counted, c.self.invariant.fits)

pub invariant_of-self : goal.invariant_of-self
invariant_of-self g c = grind (arith, common_steps, IsSound-append)

pub returns-clause-appends : goal.returns-clause-appends
returns-clause-appends g c =
    let slots = c.self.inside.slots.items in
    let at : c.data.result.index ≡ length slots = ap (λ k. k.index) c.data.ensures.value ∙ c.requires.next ∙ sym (ap (λ m. m.places) c.self.view_is) in
    rw (c.push_reserved.ensures.items, c.push_reserved.ensures.capacity, c.version-version.ensures.value, ← c.self.view_is, ← c.data.ensures.value)
    (content-append slots _ c.self.invariant _ c.args.value at _)

pub returns-clause-valid : goal.returns-clause-valid
returns-clause-valid g c = let v = c.push_reserved.new.self in valid _ _ (invariant_of-self g c) _ (omega (arith, v.ok.0, v.ok.1))
