use Rattle.slotmap_lists.proofs.Common.{length, None, sym, ap, arith, last_or}
use Rattle.slotmap_lists.proofs.Listed.{as_many_lists, last_is, last_number, no_elements, stand_all}
use Rattle.slotmap_lists.proofs.StableLists.last.Goals as goal

pub returns-then-list-lists-clause-value : goal.returns-then-list-lists-clause-value
returns-then-list-lists-clause-value g c = sym (ap (λ l. last_or l None) (no_elements c.args.self.now.lists c.args.list (omega (arith, c.lists.ensures.value, c.if-list-lists.true))))

pub last-requires : goal.last-requires
last-requires g c = omega (
  arith,
  c.lists.ensures.value,
  c.if-list-lists.false,
  as_many_lists c.self.inside.values.live c.self.inside.links,
  ap (λ s. length s.lists) c.self.view_is,
)

pub returns : goal.returns
returns g c =
    let value = last_is c.self.invariant g.K.Key.data_of c.key_at.result c.last.result c.key_at.ensures.value c.args.list c.last.ensures in
    record {
      value = rw (← c.self.view_is) value;
      stands = rw (← c.self.view_is) (stand_all c.self.invariant g.K.Key.data_of c.key_at.result c.key_at.ensures.live);
      in_list = rw (← c.self.view_is) (last_number c.self.invariant g.K.Key.data_of c.args.list c.key_at.result value);
    }
