use Rattle.slotmap_core.proofs.Common.{common_steps, arith, rules, sym, ◌∙◌, null_finds_nothing}
use Rattle.slotmap_sparse.proofs.SparseSecondaryMap.insert.Goals as goal

pub returns-then-is_null-clause-value : goal.returns-then-is_null-clause-value
returns-then-is_null-clause-value g c = sym (null_finds_nothing _ c.note_valid.ensures.keys _ (sym c.is_null.ensures.value ∙ c.if-is_null.true))

pub add-requires-clause-not_null : goal.add-requires-clause-not_null
add-requires-clause-not_null g c = search rules

pub returns-in_ok-add-in-Err-clause-ok : goal.returns-in_ok-add-in-Err-clause-ok
returns-in_ok-add-in-Err-clause-ok g c = grind (arith, common_steps)

pub returns-in_ok-add-in-Err-clause-stood : goal.returns-in_ok-add-in-Err-clause-stood
returns-in_ok-add-in-Err-clause-stood g c = grind (arith, common_steps)

pub returns-in_err-add-in-Err-clause-stood : goal.returns-in_err-add-in-Err-clause-stood
returns-in_err-add-in-Err-clause-stood g c = grind (arith, common_steps)

pub returns-in_err-add-in-Err-clause-err : goal.returns-in_err-add-in-Err-clause-err
returns-in_err-add-in-Err-clause-err g c = grind (arith, common_steps)
