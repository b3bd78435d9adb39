use Rattle.slotmap_core.proofs.Common.{is_older, no_entry, vacant, cond, eq-eqb, ne_eqb, sym, ap, ◌∙◌, entry_here, entry_other}
use Rattle.slotmap_sparse.proofs.SparseSecondaryMap.find.Goals as goal

pub returns-then-stored-version-clause-found : goal.returns-then-stored-version-clause-found
returns-then-stored-version-clause-found g c =
    let k = g.K.Key.data_of c.args.key in
    let version = c.version-version.ensures.value ∙ ap (λ k. k.version) c.data.ensures.value in
    (_, entry_here c.args.self.now.pairs k c.in-Some.field-0.now (sym c.in-Some.ensures.value) (sym c.is_null.ensures.value ∙ c.if-is_null.false) (eq-eqb _ _ (c.if-stored-version.true ∙ version)))

pub returns-else-is_older_version-clause-found : goal.returns-else-is_older_version-clause-found
returns-else-is_older_version-clause-found g c =
    let k = g.K.Key.data_of c.args.key in
    let version = c.version-version.ensures.value ∙ ap (λ k. k.version) c.data.ensures.value in
    let other = entry_other c.args.self.now.pairs k c.in-Some.field-0.now (sym c.in-Some.ensures.value)
    (sym c.is_null.ensures.value ∙ c.if-is_null.false) (ne_eqb _ _ (λ same. c.if-stored-version.false (same ∙ sym version))) in
    let newer = ap (λ v. is_older v c.in-Some.field-0.now.0) (sym version) ∙ sym c.is_older_version.ensures ∙ c.if-is_older_version.false in
    (other ∙ ap (λ b. cond b no_entry vacant) newer, (_, sym c.in-Some.ensures.value))
