use Rattle.std.proofs.Common.{◌≡◌}
use Rattle.slotmap_dense.proofs.Common.{list_map, IsCopy, clone_copies, zip_length, ◌∙◌, ap, dense-clones, same_order, IsSound-other, dense_valid}
use Rattle.slotmap_dense.proofs.DenseSlotMap.clone.Goals.{In_ok-clone}
use Rattle.slotmap_dense.proofs.DenseSlotMap.clone.Goals as goal

same_keys : (g : _) (c : In_ok-clone g) → c.in_ok-from_slice.field-0.items ≡ c.self.inside.keys.items
same_keys g c = c.in_ok-from_slice.ensures.items ∙ c.deref.ensures.value

same_slots : (g : _) (c : In_ok-clone g) → IsCopy c.self.inside.slots c.in_ok-copy.field-0
same_slots g c = c.in_ok-copy.ensures.copies_if_clones_equal (λ x y r. r)

pub invariant_of-result : goal.invariant_of-result
invariant_of-result g c =
    let at = (goal.at.invariant_of-result g c).In_ok-clone in
    rw (same_keys g at) (IsSound-other _ _ _ _ _ c.self.invariant c.in_ok-copy.ensures.valid (same_slots g at).live (zip_length _ _ _ c.in_ok-clone.ensures.cases.0))

pub returns-clause-clones : goal.returns-clause-clones
returns-clause-clones g c =
    let at = (goal.at.returns-clause-clones g c).In_ok-clone in
    rw (same_keys g at, ← c.self.view_is) (dense-clones g.V.Clone.is_clone _ _ (same_slots g at) _ c.self.invariant.packed _ _ c.in_ok-clone.ensures.cases.0 _ _)

pub returns-clause-order : goal.returns-clause-order
returns-clause-order g c =
    rw (← c.self.view_is) (record { keys = ap (list_map g.K.Key.data_of) (same_keys g (goal.at.returns-clause-order g c).In_ok-clone); values = c.in_ok-clone.ensures.cases.0 })

pub returns-clause-copies_if_clones_equal : goal.returns-clause-copies_if_clones_equal
returns-clause-copies_if_clones_equal g c = clone_copies _ _ _ (returns-clause-clones g c)

pub returns-clause-order_if_clones_equal : goal.returns-clause-order_if_clones_equal
returns-clause-order_if_clones_equal g c same = same_order _ same _ _ (returns-clause-order g c)

pub returns-clause-valid : goal.returns-clause-valid
returns-clause-valid g c = dense_valid g.K.Key.data_of c.in_ok-copy.field-0 c.in_ok-from_slice.field-0 c.in_ok-clone.field-0 (invariant_of-result g c)
