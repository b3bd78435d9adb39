use Rattle.slotmap_list.proofs.Common.{None, ap, sym, ◌∙◌, Sequence, key_before}
use Rattle.slotmap_list.proofs.Moving.{moved_prev}
use Rattle.slotmap_list.proofs.StableList.move_before.Goals as goal

pub returns-clause-prev : goal.returns-clause-prev
returns-clause-prev g c = rw (← c.data.ensures.value) (λ moved. ap (λ (s : Sequence g.row.T.Denot). key_before None c.data.result s.elements) c.move_to.ensures.moved
    ∙ moved_prev (g.K.Key.data_of c.args.cursor) c.data.result c.args.self.now.elements (sym c.move_to.ensures.which ∙ moved))
