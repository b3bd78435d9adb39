use Rattle.slotmap_lists.proofs.Common.{None, sym, ap, ◌∙◌, Key, key_before}
use Rattle.slotmap_lists.proofs.Listed.{before_is, before_number, linked_below, no_list_with, stand_all}
use Rattle.slotmap_lists.proofs.StableLists.prev.Goals as goal

pub returns-then-not-contains_key-clause-value : goal.returns-then-not-contains_key-clause-value
returns-then-not-contains_key-clause-value g c = let k = g.K.Key.data_of c.args.cursor in
    rw (← c.self.view_is) (sym (ap (key_before None k) (no_list_with c.self.invariant k (sym c.contains_key.ensures.value ∙ c.if-not-contains_key.true))))

pub returns : goal.returns
returns g c =
    let k = g.K.Key.data_of c.args.cursor in
    let live = sym c.contains_key.ensures.value ∙ c.if-not-contains_key.false in
    let value = before_is c.self.invariant g.K.Key.data_of c.key_at.result c.prev.result c.key_at.ensures.value k live c.idx.result
    (c.idx.ensures.value ∙ ap (λ (k : Key). k.index) c.data.ensures.value) c.prev.ensures in
    record {
      value = rw (← c.self.view_is) value;
      stands = rw (← c.self.view_is) (stand_all c.self.invariant g.K.Key.data_of c.key_at.result c.key_at.ensures.live);
      in_list = rw (← c.self.view_is) (before_number c.self.invariant g.K.Key.data_of k live c.key_at.result value);
    }

pub prev-requires : goal.prev-requires
prev-requires g c = linked_below c.self.invariant (g.K.Key.data_of c.args.cursor) (sym c.contains_key.ensures.value ∙ c.if-not-contains_key.false) c.idx.result
    (c.idx.ensures.value ∙ ap (λ (k : Key). k.index) c.data.ensures.value)
