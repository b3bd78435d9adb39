use Rattle.std.proofs.Common.{◌≡◌, ◌↔◌}
use Rattle.slotmap_sparse.proofs.Common.{AreEqual, true, ap, sym, subst, ◌∙◌}
use Rattle.slotmap_sparse.proofs.EqualLemmas.{equal_as, equal_maps}
use Rattle.slotmap_sparse.proofs.equal.SparseSecondaryMapPartialEq.eq.Goals as goal

pub returns-clause-value : goal.returns-clause-value
returns-clause-value g c = c.eq.ensures ∙ equal_as g.V.PartialEq.eq c.self.inside.slots c.other.inside.slots _ _ (ap (λ m. m.pairs) c.self.view_is) (ap (λ m. m.pairs) c.other.view_is)

pub returns-clause-which : goal.returns-clause-which
returns-clause-which g c =
    let a = c.args.self.now.pairs in
    let b = c.args.other.now.pairs in
    subst (λ r. r ≡ true ↔ AreEqual g.V.PartialEq.eq a b) (sym c.eq.ensures)
    (equal_maps g.V.PartialEq.eq c.self.inside.slots c.other.inside.slots a b (ap (λ m. m.pairs) c.self.view_is) (ap (λ m. m.pairs) c.other.view_is))
