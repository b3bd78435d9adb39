use Rattle.std.proofs.Common.{◌≡◌}
use Rattle.slotmap_basic.proofs.Common.{AllZip, IsCloneOf, same_from_all_zip, pairs_equal, option_clones, pairs_left-clones, IsIter-clones}
use Rattle.slotmap_basic.proofs.into_iter.IntoIter.clone.Goals.{In_ok-clone-2}
use Rattle.slotmap_basic.proofs.into_iter.IntoIter.clone.Goals as goal

xs : (g : _) (c : In_ok-clone-2 g) → AllZip (IsCloneOf g.V.Clone.is_clone) c.self.inside.values.items c.in_ok-clone-2.field-0.items
xs g c = option_clones _ _ (λ w r. r) (λ v r. r) (λ v w r. r) _ _ c.in_ok-clone-2.ensures.cases.0

vs : (g : _) (c : In_ok-clone-2 g) → c.in_ok-clone.field-0.items ≡ c.self.inside.versions.items
vs g c = same_from_all_zip _ _ _ c.in_ok-clone.ensures.cases.0 (λ x y r. r)

pub invariant_of-result : goal.invariant_of-result
invariant_of-result g c = let at = (goal.at.invariant_of-result g c).In_ok-clone-2 in rw (vs g at) (IsIter-clones g.V.Clone.is_clone _ _ _ (xs g at) _ _ c.self.invariant.0, c.self.invariant.1)

pub returns-clause-clones : goal.returns-clause-clones
returns-clause-clones g c =
    let at = (goal.at.returns-clause-clones g c).In_ok-clone-2 in rw (vs g at, ← c.self.view_is) (pairs_left-clones g.V.Clone.is_clone _ _ _ (xs g at) c.self.inside.cursor.index)

pub returns-clause-copies_if_clones_equal : goal.returns-clause-copies_if_clones_equal
returns-clause-copies_if_clones_equal g c same = pairs_equal _ same _ _ (returns-clause-clones g c)
