use Rattle.std.proofs.Common.{◌≡◌}
use Rattle.slotmap_dense.proofs.Common.{same_from_all_zip, pairs_equal, rules, sym, pairs-clones}
use Rattle.slotmap_dense.proofs.into_iter.IntoIter.clone.Goals as goal

pub invariant_of-result : goal.invariant_of-result
invariant_of-result g c = search rules

pub returns-clause-clones : goal.returns-clause-clones
returns-clause-clones g c =
    let same : c.in_ok-clone.field-0.items ≡ c.self.inside.keys.items = same_from_all_zip _ _ _ c.in_ok-clone.ensures.cases.0 (λ x y is. sym (g.met.K.Key.clone_same x y is)) in
    rw (same, ← c.self.view_is) (pairs-clones g.V.Clone.is_clone _ c.self.inside.values.items _ c.in_ok-clone-2.ensures.cases.0)

pub returns-clause-copies_if_clones_equal : goal.returns-clause-copies_if_clones_equal
returns-clause-copies_if_clones_equal g c same = pairs_equal _ same _ _ (returns-clause-clones g c)
