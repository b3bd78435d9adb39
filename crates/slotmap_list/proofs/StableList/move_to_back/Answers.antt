use Rattle.slotmap_list.proofs.Common.{None, ap, sym, ◌∙◌, Sequence, last_or}
use Rattle.slotmap_list.proofs.Moving.{moved_last}
use Rattle.slotmap_list.proofs.StableList.move_to_back.Goals as goal

pub returns-clause-last : goal.returns-clause-last
returns-clause-last g c moved = ap (λ (s : Sequence g.row.T.Denot). last_or s.elements None) c.move_to.ensures.moved
    ∙ moved_last (g.K.Key.data_of c.args.cursor) c.args.self.now.elements (sym c.move_to.ensures.which ∙ moved)
