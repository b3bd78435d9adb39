use Rattle.slotmap_list.proofs.Common.{true, refl, sym, ap, ◌∙◌, Key, list_of, Sequence, value_of, elements_at, is_move, moved_to}
use Rattle.std.proofs.Common.{◌≡◌}
use Rattle.slotmap_list.proofs.{Moved.Moves, Moved.moves, Moving.move_stays, Moving.seen_as}
use Rattle.slotmap_list.proofs.StableList.move_to.Goals.{After-idx-index}
use Rattle.slotmap_list.proofs.StableList.move_to.Goals as goal

can : (g : _) (c : After-idx-index g) → is_move (g.K.Key.data_of c.args.cursor) c.args.place (elements_at c.self.inside.values.live (list_of c.self.inside.links 0)) ≡ true
can g c = ap (λ (s : Sequence g.row.T.Denot). is_move (g.K.Key.data_of c.args.cursor) c.args.place s.elements) c.self.view_is ∙ sym c.can_move.ensures ∙ c.if-not-can_move.false

index : (g : _) (c : After-idx-index g) → c.idx-index.result ≡ (g.K.Key.data_of c.args.cursor).index
index g c = c.idx-index.ensures.value ∙ ap (λ (k : Key). k.index) c.data.ensures.value

made : (g : _) (c : After-idx-index g) → Moves c.self.invariant (g.K.Key.data_of c.args.cursor) c.args.place (can g c)
made g c = moves c.self.invariant (g.K.Key.data_of c.args.cursor) c.args.place (can g c)

pub returns-then-not-can_move-clause-moved : goal.returns-then-not-can_move-clause-moved
returns-then-not-can_move-clause-moved g c =
    seen_as c.args.self.now c.args.self.now.elements _ c.args.self.now.cursors c.args.self.now.links
    (move_stays c.args.place (g.K.Key.data_of c.args.cursor) c.args.self.now.elements (sym c.can_move.ensures ∙ c.if-not-can_move.true)) refl refl

pub take_out-requires-clause-member : goal.take_out-requires-clause-member
take_out-requires-clause-member g c = let at = (goal.at.take_out-requires-clause-member g c).After-idx-index in rw (index g at) (made g at).member

pub put_index-requires-clause-free : goal.put_index-requires-clause-free
put_index-requires-clause-free g c = let at = (goal.at.put_index-requires-clause-free g c).After-idx-index in rw (c.take_out.ensures, index g at) (made g at).free

pub put_index-requires-clause-place : goal.put_index-requires-clause-place
put_index-requires-clause-place g c = let at = (goal.at.put_index-requires-clause-place g c).After-idx-index in rw (c.take_out.ensures, index g at) (made g at).has

pub invariant_of-self : goal.invariant_of-self
invariant_of-self g c = let at = (goal.at.invariant_of-self g c).After-idx-index in rw (c.put_index.ensures, c.take_out.ensures, index g at) (made g at).stays

pub returns-clause-moved : goal.returns-clause-moved
returns-clause-moved g c =
    let at = (goal.at.returns-clause-moved g c).After-idx-index in
    rw (c.put_index.ensures, c.take_out.ensures, index g at)
    (seen_as c.args.self.now _ _ _ _ ((made g at).elements ∙ ap (λ (s : Sequence g.row.T.Denot). moved_to c.args.place (g.K.Key.data_of c.args.cursor) s.elements) c.self.view_is)
    (ap (λ (s : Sequence g.row.T.Denot). s.cursors) c.self.view_is) (ap (λ (s : Sequence g.row.T.Denot). s.links) c.self.view_is))

pub returns-clause-values : goal.returns-clause-values
returns-clause-values g c q = let at = (goal.at.returns-clause-values g c).After-idx-index in
    rw (c.put_index.ensures, c.take_out.ensures, index g at, ← c.self.view_is) (ap (value_of q) (made g at).elements ∙ (made g at).values q)
