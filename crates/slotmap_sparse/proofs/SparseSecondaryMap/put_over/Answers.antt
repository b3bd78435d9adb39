use Rattle.std.specs.FinMap as map
use Rattle.slotmap_sparse.proofs.Common.{WritesThrough, option_copied_mut, value_at, nat_eq, ◌∙◌, common_steps, IsSparseContent, content_of, found_pair, well_formed, IsSound-over, content_over}
use Rattle.slotmap_sparse.proofs.Common.{IsKey, refl, sym, ap, subst, arith}
use Rattle.slotmap_sparse.specs.Found.{put_over}
use Rattle.slotmap_sparse.proofs.SparseSecondaryMap.put_over.Goals as goal

pub returns-in_default-clause-absent : goal.returns-in_default-clause-absent
returns-in_default-clause-absent g c =
    let at = c.idx.ensures.value ∙ ap (λ k. k.index) c.data-key.ensures.value in
    sym (found_pair _ _ (ap (λ m. m.pairs) c.self.view_is) _ ∙ ap (map.get c.args.self.now.pairs) at) ∙ sym c.get_mut.ensures.value ∙ ap option_copied_mut c.in_default.is

pub returns-in_default-clause-valid : goal.returns-in_default-clause-valid
returns-in_default-clause-valid g c = subst (λ m. IsSparseContent (content_of m)) (sym c.get_mut.follows.holds-at-none) (well_formed c.self.inside.slots _ refl c.self.invariant)

pub invariant_of-self-2 : goal.invariant_of-self-2
invariant_of-self-2 g c =
    let key = c.data-key.ensures.value in
    let at = c.idx.ensures.value ∙ ap (λ k. k.index) key in
    let over = c.replace.ensures.puts ∙ ap (λ x. put_over x c.args.value c.in-Some.slot.now) (c.version.ensures.value ∙ ap (λ k. k.version) key) in
    let written = subst (λ w. WritesThrough nat_eq (nat_eq c.idx.result) c.self.inside.slots w (c.get_mut.follows.lender c.replace.new.slot)) over (c.get_mut.follows.holds c.replace.new.slot) in
    IsSound-over c.self.inside.slots _ c.self.invariant c.args.self.now c.self.view_is (g.K.Key.data_of c.args.key)
    (subst IsKey key c.data-key.ensures.valid) _ at c.in-Some.slot.now c.args.value
    (sym c.get_mut.ensures.value ∙ ap option_copied_mut c.in-Some.is) written

pub returns-clause-value : goal.returns-clause-value
returns-clause-value g c = grind (arith, common_steps, option_copied_mut, found_pair, value_at)

pub returns-clause-ok : goal.returns-clause-ok
returns-clause-ok g c =
    let key = c.data-key.ensures.value in
    let at = c.idx.ensures.value ∙ ap (λ k. k.index) key in
    let over = c.replace.ensures.puts ∙ ap (λ x. put_over x c.args.value c.in-Some.slot.now) (c.version.ensures.value ∙ ap (λ k. k.version) key) in
    let written = subst (λ w. WritesThrough nat_eq (nat_eq c.idx.result) c.self.inside.slots w (c.get_mut.follows.lender c.replace.new.slot)) over (c.get_mut.follows.holds c.replace.new.slot) in
    content_over c.self.inside.slots _ c.self.invariant c.args.self.now c.self.view_is (g.K.Key.data_of c.args.key)
    (subst IsKey key c.data-key.ensures.valid) _ at c.in-Some.slot.now c.args.value
    (sym c.get_mut.ensures.value ∙ ap option_copied_mut c.in-Some.is) written

pub returns-clause-valid : goal.returns-clause-valid
returns-clause-valid g c = well_formed (c.get_mut.follows.lender c.replace.new.slot) _ refl (invariant_of-self-2 g c)
