use Rattle.slotmap_lists.proofs.Common.{None, arith, ap, sym, ◌∙◌, Sequences, last_or, elements_of}
use Rattle.slotmap_lists.proofs.Arriving.{can_both, moved_last}
use Rattle.slotmap_lists.proofs.StableLists.move_to_back.Goals as goal

pub move_to-requires-clause-there : goal.move_to-requires-clause-there
move_to-requires-clause-there g c = (can_both (g.K.Key.data_of c.args.cursor) c.args.list c.args.self.now.lists (sym c.can_move_to.ensures.which ∙ c.if-not-can_move_to.false)).0

pub move_to-requires-clause-list : goal.move_to-requires-clause-list
move_to-requires-clause-list g c = (can_both (g.K.Key.data_of c.args.cursor) c.args.list c.args.self.now.lists (sym c.can_move_to.ensures.which ∙ c.if-not-can_move_to.false)).1

pub returns-clause-last : goal.returns-clause-last
returns-clause-last g c moved = ap (λ (s : Sequences g.row.T.Denot). last_or (elements_of c.args.list s.lists) None) c.move_to.ensures.moved
    ∙ moved_last (g.K.Key.data_of c.args.cursor) c.args.list c.args.self.now.lists (sym c.can_move_to.ensures.which ∙ c.if-not-can_move_to.false)

pub overflow_cast-list : goal.overflow_cast-list
overflow_cast-list g c = omega (arith, c.can_move_to.ensures.fits c.if-not-can_move_to.false)
