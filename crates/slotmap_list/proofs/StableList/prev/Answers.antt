use Rattle.slotmap_list.proofs.Common.{None, sym, ap, ◌∙◌, Key}
use Rattle.slotmap_list.proofs.Seen.{gone_from, before_is, below}
use Rattle.slotmap_list.proofs.StableList.prev.Goals as goal

pub returns-then-not-contains_key : goal.returns-then-not-contains_key
returns-then-not-contains_key g c =
    rw (← c.self.view_is) (sym ((gone_from c.self.invariant (g.K.Key.data_of c.args.cursor) (sym c.contains_key.ensures.value ∙ c.if-not-contains_key.true)).before_is None))

pub returns : goal.returns
returns g c =
    rw (← c.self.view_is) (before_is c.self.invariant g.K.Key.data_of c.key_at.result c.prev.result c.key_at.ensures (g.K.Key.data_of c.args.cursor)
    (sym c.contains_key.ensures.value ∙ c.if-not-contains_key.false) c.idx.result (c.idx.ensures.value ∙ ap (λ (k : Key). k.index) c.data.ensures.value) c.prev.ensures)

pub prev-requires : goal.prev-requires
prev-requires g c = below c.self.invariant (g.K.Key.data_of c.args.cursor) (sym c.contains_key.ensures.value ∙ c.if-not-contains_key.false) c.idx.result
    (c.idx.ensures.value ∙ ap (λ (k : Key). k.index) c.data.ensures.value)
