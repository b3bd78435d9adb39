use Rattle.slotmap_lists.proofs.Common.{length, sym, ap, ◌∙◌, arith, elements_long}
use Rattle.slotmap_lists.proofs.Listed.{as_many_lists, no_elements, seen_list}
use Rattle.slotmap_lists.proofs.StableLists.list_len.Goals as goal

pub returns-then-list-lists : goal.returns-then-list-lists
returns-then-list-lists g c = sym (ap length (no_elements c.args.self.now.lists c.args.list (omega (arith, c.lists.ensures.value, c.if-list-lists.true))))

pub len-requires : goal.len-requires
len-requires g c = omega (
  arith,
  c.lists.ensures.value,
  c.if-list-lists.false,
  as_many_lists c.self.inside.values.live c.self.inside.links,
  ap (λ s. length s.lists) c.self.view_is,
)

pub returns : goal.returns
returns g c = rw (← c.self.view_is) (c.len.ensures ∙ sym (ap length (seen_list c.self.inside.values.live c.self.inside.links c.args.list)
    ∙ elements_long _ (c.self.invariant.indices c.args.list)))
