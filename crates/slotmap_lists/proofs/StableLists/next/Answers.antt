use Rattle.slotmap_lists.proofs.Common.{sym, ap, ◌∙◌, Key, key_after}
use Rattle.slotmap_lists.proofs.Listed.{after_is, after_number, linked_below, no_list_with, stand_all}
use Rattle.slotmap_lists.proofs.StableLists.next.Goals as goal

pub returns-then-not-contains_key-clause-value : goal.returns-then-not-contains_key-clause-value
returns-then-not-contains_key-clause-value g c = let k = g.K.Key.data_of c.args.cursor in
    rw (← c.self.view_is) (sym (ap (key_after k) (no_list_with c.self.invariant k (sym c.contains_key.ensures.value ∙ c.if-not-contains_key.true))))

pub returns : goal.returns
returns g c =
    let k = g.K.Key.data_of c.args.cursor in
    let live = sym c.contains_key.ensures.value ∙ c.if-not-contains_key.false in
    let value = after_is c.self.invariant g.K.Key.data_of c.key_at.result c.next.result c.key_at.ensures.value k live c.idx.result
    (c.idx.ensures.value ∙ ap (λ (k : Key). k.index) c.data.ensures.value) c.next.ensures in
    record {
      value = rw (← c.self.view_is) value;
      stands = rw (← c.self.view_is) (stand_all c.self.invariant g.K.Key.data_of c.key_at.result c.key_at.ensures.live);
      in_list = rw (← c.self.view_is) (after_number c.self.invariant g.K.Key.data_of k live c.key_at.result value);
    }

pub next-requires : goal.next-requires
next-requires g c = linked_below c.self.invariant (g.K.Key.data_of c.args.cursor) (sym c.contains_key.ensures.value ∙ c.if-not-contains_key.false) c.idx.result
    (c.idx.ensures.value ∙ ap (λ (k : Key). k.index) c.data.ensures.value)
