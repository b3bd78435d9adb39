use Rattle.slotmap_links.proofs.Common.{ap, ◌∙◌, with_list, without, list_here, seen_written}
use Rattle.slotmap_links.proofs.Links.take_out.Goals as goal

pub returns : goal.returns
returns c = seen_written c.self.inside.ends c.self.inside.links c.args.owner _ _ _ (rw (c.deref_mut.ensures.value, c.deref_mut-2.ensures.value) at c.take_between.ensures)
    c.args.self.now c.self.view_is c.requires.owner ∙ ap (λ l. with_list c.args.self.now c.args.owner (without c.args.member l)) (list_here c.self.invariant c.self.view_is c.args.owner)
