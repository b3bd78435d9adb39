use Rattle.std.specs.FinMap as map
use Rattle.slotmap_core.proofs.Common.{option_copied_mut, refl, sym, ap, ◌∙◌, index_stands, get_stands, common_steps, arith}
use Rattle.slotmap_sparse.proofs.EntriesLemmas.{some_lent, well_formed, found_pair, IsSound-through, content-through}
use Rattle.slotmap_sparse.proofs.SparseSecondaryMap.get_unchecked_mut.Goals as goal

pub unwrap-requires : goal.unwrap-requires
unwrap-requires g c = grind (arith, common_steps, found_pair, some_lent, index_stands)

pub invariant_of-self-lent : goal.invariant_of-self-lent
invariant_of-self-lent g c w =
    let at = c.idx-index.ensures.value ∙ ap (λ k. k.index) c.data.ensures.value in
    IsSound-through _ _ c.self.invariant (g.K.Key.data_of c.args.key) _ at c.unwrap.result.now w
    (sym c.get_mut.ensures.value ∙ ap option_copied_mut c.unwrap.ensures) (c.get_mut.follows.holds (c.unwrap.result.now.0, w))

pub returns : goal.returns
returns g c =
    let at = c.idx-index.ensures.value ∙ ap (λ k. k.index) c.data.ensures.value in
    let stood = sym c.get_mut.ensures.value ∙ ap option_copied_mut c.unwrap.ensures in
    let there = sym (found_pair _ _ (ap (λ x. x.pairs) c.self.view_is) _ ∙ ap (map.get c.args.self.now.pairs) at) ∙ stood in (
      (refl, λ w. content-through _ _ c.self.invariant (g.K.Key.data_of c.args.key) _ at c.unwrap.result.now w stood (c.get_mut.follows.holds (c.unwrap.result.now.0, w)) _ c.self.view_is c.requires),
      record { writes_back = tt; value = get_stands _ _ c.requires _ there; valid = well_formed c.self.inside.slots _ c.self.view_is c.self.invariant },
    )
