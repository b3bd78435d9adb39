use Rattle.slotmap_entities.proofs.Common.{sym, ◌∙◌, clone_live}
use Rattle.slotmap_entities.proofs.World.clone.Goals as goal

pub invariant_of-result : goal.invariant_of-result
invariant_of-result g c k there = clone_live _ _ _ c.in_ok-entities.ensures.clones k ∙ c.self.invariant k (sym (c.in_ok-tables.ensures.same k) ∙ there)

pub returns : goal.returns
returns g c =
    let copied = c.in_ok-entities.ensures in
    rw (← c.self.view_is) (record {
      entities = copied.clones;
      order = copied.order;
      tables = c.in_ok-tables.ensures.clones;
      same = c.in_ok-tables.ensures.same;
      copies_if_clones_equal = copied.copies_if_clones_equal;
      order_if_clones_equal = copied.order_if_clones_equal;
      same_if_clones_equal = λ equal q. g.met.T.CloneTables.same_parts c.self.inside.tables c.in_ok-tables.tables q equal c.in_ok-tables.ensures.clones;
    })
