use Rattle.slotmap_core.proofs.Common.{length, slice_get, map as list_map, sym, ap, ◌∙◌, arith, same_Some}
use Rattle.slotmap_dense.proofs.SettledLemmas.{contains, present}
use Rattle.slotmap_dense.proofs.DenseSlotMap.lend_two.Goals as goal

pub get_unchecked-requires : goal.get_unchecked-requires
get_unchecked-requires g c = rw (c.data.ensures.value, ← contains _ c.self.inside c.self.view_is c.self.invariant (g.K.Key.data_of c.args.first)) c.requires.first

pub get_unchecked-requires-2 : goal.get_unchecked-requires-2
get_unchecked-requires-2 g c = rw (c.data-2.ensures.value, ← contains _ c.self.inside c.self.view_is c.self.invariant (g.K.Key.data_of c.args.second)) c.requires.second

pub two_of-requires-clause-apart : goal.two_of-requires-clause-apart
two_of-requires-clause-apart g c same =
    let packed = c.self.invariant.packed in
    let one = packed.stands c.data.result _ c.get_unchecked.ensures.value in
    let other = packed.stands c.data-2.result _ c.get_unchecked-2.ensures.value in
    c.requires.apart (sym c.data.ensures.value ∙ same_Some _ _ (sym one ∙ ap (λ i. slice_get (list_map g.K.Key.data_of c.self.inside.keys.items) i) same ∙ other) ∙ c.data-2.ensures.value)

pub two_of-requires-clause-first : goal.two_of-requires-clause-first
two_of-requires-clause-first g c =
    let found = present _ c.self.inside c.self.view_is c.self.invariant c.data.result _ c.get_unchecked.ensures.value in
    omega (arith, found.inside, ap length c.values_as_mut_slice.ensures.value, ap (λ d. length d.values) c.self.view_is)

pub two_of-requires-clause-second : goal.two_of-requires-clause-second
two_of-requires-clause-second g c =
    let found = present _ c.self.inside c.self.view_is c.self.invariant c.data-2.result _ c.get_unchecked-2.ensures.value in
    omega (arith, found.inside, ap length c.values_as_mut_slice.ensures.value, ap (λ d. length d.values) c.self.view_is)

pub returns-clause-first : goal.returns-clause-first
returns-clause-first g c =
    let found = present _ c.self.inside c.self.view_is c.self.invariant c.data.result _ c.get_unchecked.ensures.value in
    let values = ap (λ d. d.values) c.self.view_is ∙ sym c.values_as_mut_slice.ensures.value in
    rw (← c.data.ensures.value) (found.gives ∙ sym found.there ∙ ap (λ xs. slice_get xs c.get_unchecked.result.now) values ∙ c.two_of.ensures.first)

pub returns-clause-second : goal.returns-clause-second
returns-clause-second g c =
    let found = present _ c.self.inside c.self.view_is c.self.invariant c.data-2.result _ c.get_unchecked-2.ensures.value in
    let values = ap (λ d. d.values) c.self.view_is ∙ sym c.values_as_mut_slice.ensures.value in
    rw (← c.data-2.ensures.value) (found.gives ∙ sym found.there ∙ ap (λ xs. slice_get xs c.get_unchecked-2.result.now) values ∙ c.two_of.ensures.second)
