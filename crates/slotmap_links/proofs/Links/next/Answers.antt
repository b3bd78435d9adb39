use Rattle.slotmap_links.proofs.Common.{◌∙◌, number_next}
use Rattle.slotmap_links.proofs.Links.next.Goals as goal

pub returns : goal.returns
returns c p inside = c.option_of.ensures ∙ number_next c.self.invariant c.self.view_is p c.args.member inside c.index.result.now c.index.ensures
