use Rattle.std.proofs.Common.{◌≡◌}
use Rattle.slotmap_dense.proofs.Common.{list_map, with_items, vec_capacity, ◌∙◌, packed_order, items-whole, passes-lift, may-lift, Lifts-values, dense_of, IsSound-other, stays-valid}
use Rattle.slotmap_dense.proofs.Common.{length, min, refl, ap, arith, Passes, stage, beside, IsSound}
use Rattle.std.proofs.lemmas.Grind.{common_steps}
use Rattle.slotmap_dense.proofs.DenseSlotMap.first_rejected.Goals as goal

pub find_rejected-requires-clause-callable : goal.find_rejected-requires-clause-callable
find_rejected-requires-clause-callable g c =
    let m = c.self.inside in
    let keys = list_map g.K.Key.data_of m.keys.items in
    let spare = min (vec_capacity m.keys) (vec_capacity m.values) in
    rw (c.as_slice.ensures.value, c.as_mut_slice.ensures.value) (may-lift (beside g.K.Key.data_of keys) (packed_order g.K.Key.data_of) (λ values. dense_of m.slots keys values spare)
    (λ values. IsSound m.slots keys values) (Lifts-values g.K.Key.data_of m.slots keys spare) g.F.FnMut (stage c.args.from m.values.items c.args.f.now)
    c.self.invariant (rw (← c.self.view_is) at c.requires.callable))

pub returns-clause-passes : goal.returns-clause-passes
returns-clause-passes g c =
    let m = c.self.inside in
    let end = c.find_rejected.new in
    let keys = list_map g.K.Key.data_of m.keys.items in
    let spare = min (vec_capacity m.keys) (vec_capacity m.values) in
    let same : length end.values ≡ length m.values.items = c.find_rejected.ensures.same_length ∙ ap length c.as_mut_slice.ensures.value in
    let passes : Passes (beside g.K.Key.data_of keys) g.F.FnMut (stage c.args.from m.values.items c.args.f.now) (stage c.find_rejected.result end.values end.f) =
    rw (← c.as_slice.ensures.value, ← c.as_mut_slice.ensures.value) c.find_rejected.ensures.passes in
    rw (← c.self.view_is, items-whole m.values end.values same)
    (passes-lift (beside g.K.Key.data_of keys) (packed_order g.K.Key.data_of) (λ values. dense_of m.slots keys values spare)
    (λ values. IsSound m.slots keys values) (Lifts-values g.K.Key.data_of m.slots keys spare) g.F.FnMut (stage c.args.from m.values.items c.args.f.now)
    (stage c.find_rejected.result end.values end.f) c.self.invariant passes).0

pub returns-clause-valid : goal.returns-clause-valid
returns-clause-valid g c =
    let m = c.self.inside in
    let end = c.find_rejected.new in
    let same : length end.values ≡ length m.values.items = c.find_rejected.ensures.same_length ∙ ap length c.as_mut_slice.ensures.value in
    stays-valid _ m c.self.view_is c.self.invariant m.slots m.keys (with_items m.values end.values)
    (IsSound-other _ _ _ _ _ c.self.invariant c.self.invariant.well refl (ap length (items-whole m.values end.values same) ∙ same)) refl refl refl

pub returns-clause-keys : goal.returns-clause-keys
returns-clause-keys g c = ap (λ d. d.keys) c.self.view_is

pub find_rejected-requires-clause-from : goal.find_rejected-requires-clause-from
find_rejected-requires-clause-from g c = grind (arith, common_steps)

pub find_rejected-requires-clause-same_length : goal.find_rejected-requires-clause-same_length
find_rejected-requires-clause-same_length g c = grind (arith, common_steps)

pub invariant_of-self : goal.invariant_of-self
invariant_of-self g c = grind (arith, common_steps)

pub returns-clause-within : goal.returns-clause-within
returns-clause-within g c = grind (arith, common_steps)
