use Rattle.slotmap_lists.proofs.Common.{length, sym, ap, arith}
use Rattle.slotmap_list.proofs.Parts.{elements_once}
use Rattle.slotmap_lists.proofs.Listed.{as_many_lists, once, seen_list}
use Rattle.slotmap_lists.proofs.StableLists.iter.Goals as goal

pub iter-requires : goal.iter-requires
iter-requires g c = omega (
  arith,
  c.lists.ensures.value,
  c.if-list-lists.false,
  as_many_lists c.self.inside.values.live c.self.inside.links,
  ap (λ s. length s.lists) c.self.view_is,
)

pub invariant_of-result : goal.invariant_of-result
invariant_of-result g c = rw c.iter.ensures (c.self.invariant.indices c.args.list)

pub returns-clause-elements : goal.returns-clause-elements
returns-clause-elements g c = rw (c.iter.ensures, ← c.self.view_is) (sym (seen_list c.self.inside.values.live c.self.inside.links c.args.list))

pub returns-clause-once : goal.returns-clause-once
returns-clause-once g c = rw c.iter.ensures (elements_once c.self.inside.values.live _ (once c.self.invariant c.args.list))
