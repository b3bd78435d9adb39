use Rattle.slotmap_list.proofs.Common.{[], refl, length, ap, sym, subst, ◌∙◌, arith, used, FullAfter}
use Rattle.std.proofs.Common.{◌≡◌}
use Rattle.std.proofs.lemmas.List.{length-map}
use Rattle.slotmap_list.proofs.Adding.{Adds-anew, used_new}
use Rattle.slotmap_list.proofs.StableList.from_iter.Goals as goal

pub returns-in-Err-clause-err : goal.returns-in-Err-clause-err
returns-in-Err-clause-err g c =
    let all = c.in-Err.ensures.extends in
    let added = sym (length-map c.extend.new.self.elements (λ e. e.1)) ∙ ap length (Adds-anew all.2.values c.extend.new.self.elements (rw c.in-Ok.ensures.empty at all.2.adds)) in
    let many : used c.extend.new.self.cursors ≡ length all.2.values =
    omega (arith, added, c.in-Err.ensures.used, used_new c.in-Ok.list.cursors c.in-Ok.ensures.cursors, ap length c.in-Ok.ensures.empty) in
    (all.0, all.2.values, all.2.ended.0, all.1, all.2.ended.1, subst (λ n. FullAfter n c.in-Err.error) many c.in-Err.ensures.err)

pub returns-in_default-clause-err : goal.returns-in_default-clause-err
returns-in_default-clause-err g c = (c.into_iter.result, [], c.next.new.self, c.into_iter.ensures.into_iter_gives, (c.into_iter.result, refl, c.in-Some.ensures.steps), omega arith)

pub returns-in-Ok-extend-clause-used : goal.returns-in-Ok-extend-clause-used
returns-in-Ok-extend-clause-used g c =
    omega (arith, c.in-Ok-extend.ensures.used, used_new c.in-Ok.list.cursors c.in-Ok.ensures.cursors, ap length c.in-Ok.ensures.empty)
