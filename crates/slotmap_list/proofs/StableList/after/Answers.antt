use Rattle.slotmap_list.proofs.Common.{sym, ap, ◌∙◌, Key}
use Rattle.slotmap_list.proofs.Seen.{gone_from, after_is, below, no_key_twice}
use Rattle.slotmap_list.proofs.StableList.after.Goals as goal

pub returns-then-not-contains_key-clause-value : goal.returns-then-not-contains_key-clause-value
returns-then-not-contains_key-clause-value g c =
    rw (← c.self.view_is) (sym ((gone_from c.self.invariant (g.K.Key.data_of c.args.cursor) (sym c.contains_key.ensures.value ∙ c.if-not-contains_key.true)).after_is))

pub returns-then-not-contains_key-clause-once : goal.returns-then-not-contains_key-clause-once
returns-then-not-contains_key-clause-once g c = rw (← c.self.view_is) (no_key_twice c.self.invariant)

pub returns-clause-value : goal.returns-clause-value
returns-clause-value g c =
    rw (← c.self.view_is) (after_is c.self.invariant g.K.Key.data_of c.key_at.result c.next.result c.key_at.ensures (g.K.Key.data_of c.args.cursor)
    (sym c.contains_key.ensures.value ∙ c.if-not-contains_key.false) c.idx.result (c.idx.ensures.value ∙ ap (λ (k : Key). k.index) c.data.ensures.value) c.next.ensures)

pub returns-clause-once : goal.returns-clause-once
returns-clause-once g c = rw (← c.self.view_is) (no_key_twice c.self.invariant)

pub next-requires : goal.next-requires
next-requires g c = below c.self.invariant (g.K.Key.data_of c.args.cursor) (sym c.contains_key.ensures.value ∙ c.if-not-contains_key.false) c.idx.result
    (c.idx.ensures.value ∙ ap (λ (k : Key). k.index) c.data.ensures.value)
