use Rattle.slotmap_lists.proofs.Common.{None, Some, is_some, sym, ap, ◌∙◌, List, Key, list_with, value_under, key_before}
use Rattle.slotmap_lists.proofs.Arriving.{put_ahead}
use Rattle.slotmap_lists.proofs.Callers.{prev_put, stands_with}
use Rattle.slotmap_lists.proofs.StableLists.insert_before.Goals as goal

pub put-requires-clause-place : goal.put-requires-clause-place
put-requires-clause-place g c = rw (c.data.ensures.value) c.home-list.ensures.here

pub returns-in-Ok-clause-ok : goal.returns-in-Ok-clause-ok
returns-in-Ok-clause-ok g c = (rw (c.data.ensures.value) at c.in-Ok.ensures.ok) ∙ put_ahead (g.K.Key.data_of c.args.cursor) (g.K.Key.data_of c.in-Ok.key, c.args.value)
    c.args.self.now.lists c.home-list.result c.home-list.ensures.below c.home-list.ensures.alone

pub returns-in-Ok-clause-in_list : goal.returns-in-Ok-clause-in_list
returns-in-Ok-clause-in_list g c = c.in-Ok.ensures.in_list ∙ sym c.home-list.ensures.value

pub returns-in-Ok-clause-others : goal.returns-in-Ok-clause-others
returns-in-Ok-clause-others g c q apart = c.put.ensures.others q (λ same. apart (c.home-list.ensures.value ∙ ap Some (sym same)))

pub returns-in-Ok-clause-prev : goal.returns-in-Ok-clause-prev
returns-in-Ok-clause-prev g c =
    let k = g.K.Key.data_of c.args.cursor in
    let some = sym c.contains.ensures.value ∙ c.if-not-contains.false in
    ap (λ (lists : List (List (Key × g.row.T.Denot))). key_before None k (list_with k lists)) (returns-in-Ok-clause-ok g c)
    ∙ prev_put k (g.K.Key.data_of c.in-Ok.key, c.args.value) c.args.self.now.lists (stands_with k c.args.self.now.lists some)
    (λ same. (let h = sym (ap is_some (ap (λ q. value_under q c.args.self.now.lists) same ∙ c.in-Ok.ensures.fresh)) ∙ some in cc))
