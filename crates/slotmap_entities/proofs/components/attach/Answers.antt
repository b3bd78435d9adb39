use Rattle.std.proofs.Common.{◌+◌, sym, ◌∙◌, arith}
use Rattle.slotmap.proofs.Callers.{beside_put, get-put_live, get-put_other}
use Rattle.slotmap_entities.proofs.components.attach.Goals as goal

pub returns-in-Ok-clause-there : goal.returns-in-Ok-clause-there
returns-in-Ok-clause-there g c =
    rw c.in-Ok.ensures.ok (get-put_live _ _ c.contains_key.ensures.valid.content _ c.requires _ (sym c.contains_key.ensures.value ∙ c.if-not-contains_key.false) _)

pub returns-in-Ok-clause-others : goal.returns-in-Ok-clause-others
returns-in-Ok-clause-others g c q other =
    rw c.in-Ok.ensures.ok (get-put_other _ _ c.contains_key.ensures.valid.content _ c.requires _ (sym c.contains_key.ensures.value ∙ c.if-not-contains_key.false) _ q other)

pub returns-in-Ok-clause-beside : goal.returns-in-Ok-clause-beside
returns-in-Ok-clause-beside g c =
    rw c.in-Ok.ensures.ok (beside_put _ _ c.contains_key.ensures.valid.content _ c.requires _ (sym c.contains_key.ensures.value ∙ c.if-not-contains_key.false) _)

pub returns-then-not-contains_key-clause-less_room : goal.returns-then-not-contains_key-clause-less_room
returns-then-not-contains_key-clause-less_room g c i count fit = g.met.M.Table.fewer_fit c.args.table.now i i count (count + 1) (omega arith) (omega arith) fit
