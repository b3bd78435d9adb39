use Rattle.slotmap_links.proofs.Segments.{tail_begins, tail_value}
use Rattle.slotmap_links.proofs.Links.iter_from.Goals as goal

pub invariant_of-result : goal.invariant_of-result
invariant_of-result c = rw c.deref.ensures.value (tail_begins c.self.invariant c.self.view_is c.requires.0 c.args.member c.requires.1)

pub returns : goal.returns
returns c p inside = rw c.deref.ensures.value (tail_value c.self.invariant c.self.view_is p c.args.member inside)
