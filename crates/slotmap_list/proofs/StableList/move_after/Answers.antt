use Rattle.slotmap_list.proofs.Common.{ap, sym, ◌∙◌, Sequence, key_after}
use Rattle.slotmap_list.proofs.Moving.{moved_next}
use Rattle.slotmap_list.proofs.StableList.move_after.Goals as goal

pub returns-clause-next : goal.returns-clause-next
returns-clause-next g c = rw (← c.data.ensures.value) (λ moved. ap (λ (s : Sequence g.row.T.Denot). key_after c.data.result s.elements) c.move_to.ensures.moved
    ∙ moved_next (g.K.Key.data_of c.args.cursor) c.data.result c.args.self.now.elements (sym c.move_to.ensures.which ∙ moved))
