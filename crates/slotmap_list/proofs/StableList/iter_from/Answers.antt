use Rattle.slotmap_list.proofs.Common.{sym, ap, length, ◌∙◌, Key, Sequence}
use Rattle.slotmap_list.proofs.Seen.{gone_from, inside_if, rest_begins, tail_elements}
use Rattle.slotmap_list.proofs.StableList.iter_from.Goals as goal

pub returns-then-not-contains_key-clause-elements : goal.returns-then-not-contains_key-clause-elements
returns-then-not-contains_key-clause-elements g c =
    rw (← c.self.view_is) (sym ((gone_from c.self.invariant (g.K.Key.data_of c.args.cursor) (sym c.contains_key.ensures.value ∙ c.if-not-contains_key.true)).from_is))

pub invariant_of-result-2 : goal.invariant_of-result-2
invariant_of-result-2 g c =
    rest_begins c.self.invariant (g.K.Key.data_of c.args.cursor) (sym c.contains_key.ensures.value ∙ c.if-not-contains_key.false) c.idx.result
    (c.idx.ensures.value ∙ ap (λ (k : Key). k.index) c.data.ensures.value)
    c.iter_from.result c.iter_from.ensures c.len-most.result (c.len-most.ensures.value ∙ ap (λ (s : Sequence g.row.T.Denot). length s.elements) (sym c.self.view_is))

pub returns-clause-elements : goal.returns-clause-elements
returns-clause-elements g c =
    rw (← c.self.view_is) (tail_elements c.self.invariant (g.K.Key.data_of c.args.cursor) (sym c.contains_key.ensures.value ∙ c.if-not-contains_key.false) c.idx.result
    (c.idx.ensures.value ∙ ap (λ (k : Key). k.index) c.data.ensures.value) c.iter_from.result c.iter_from.ensures)

pub iter_from-requires : goal.iter_from-requires
iter_from-requires g c =
    (0, rw (c.idx.ensures.value, c.data.ensures.value) (inside_if c.self.invariant (g.K.Key.data_of c.args.cursor) (sym c.contains_key.ensures.value ∙ c.if-not-contains_key.false)))
