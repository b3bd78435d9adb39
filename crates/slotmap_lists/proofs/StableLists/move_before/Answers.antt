use Rattle.slotmap_lists.proofs.Common.{Some, None, ap, sym, ◌∙◌, List, Key, Sequences, list_with, key_before}
use Rattle.slotmap_lists.proofs.Arriving.{both, other_stands, ahead_is, prev_moved}
use Rattle.slotmap_lists.proofs.StableLists.move_before.Goals as goal

pub home-list-requires : goal.home-list-requires
home-list-requires g c = (both (g.K.Key.data_of c.args.cursor) (g.K.Key.data_of c.args.other) c.args.self.now.lists (sym c.has_two.ensures ∙ c.if-not-has_two.false)).2

pub move_to-requires-clause-there : goal.move_to-requires-clause-there
move_to-requires-clause-there g c = (both (g.K.Key.data_of c.args.cursor) (g.K.Key.data_of c.args.other) c.args.self.now.lists (sym c.has_two.ensures ∙ c.if-not-has_two.false)).1

pub move_to-requires-clause-place : goal.move_to-requires-clause-place
move_to-requires-clause-place g c = rw (c.data.ensures.value) (other_stands (g.K.Key.data_of c.args.cursor) (g.K.Key.data_of c.args.other) c.args.self.now.lists
    (sym c.has_two.ensures ∙ c.if-not-has_two.false) c.home-list.result c.home-list.ensures.here)

pub returns-clause-moved : goal.returns-clause-moved
returns-clause-moved g c =
    let moved = rw (c.data.ensures.value) at c.move_to.ensures.moved in
    moved ∙ ap (λ (l : List (List (Key × g.row.T.Denot))). record c.args.self.now { lists = l })
    (ahead_is (g.K.Key.data_of c.args.cursor) (g.K.Key.data_of c.args.other) c.args.self.now.lists (sym c.has_two.ensures ∙ c.if-not-has_two.false)
    c.home-list.result c.home-list.ensures.below c.home-list.ensures.alone)

pub returns-clause-in_list : goal.returns-clause-in_list
returns-clause-in_list g c moved = c.move_to.ensures.in_list ∙ sym c.home-list.ensures.value

pub returns-clause-others : goal.returns-clause-others
returns-clause-others g c moved q apart = c.move_to.ensures.others q (λ same. apart (c.home-list.ensures.value ∙ ap Some (sym same)))

pub returns-clause-prev : goal.returns-clause-prev
returns-clause-prev g c moved = let other = g.K.Key.data_of c.args.other in
    ap (λ (s : Sequences g.row.T.Denot). key_before None other (list_with other s.lists)) (returns-clause-moved g c)
    ∙ prev_moved (g.K.Key.data_of c.args.cursor) other c.args.self.now.lists (sym c.has_two.ensures ∙ c.if-not-has_two.false)
