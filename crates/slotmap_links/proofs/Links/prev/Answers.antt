use Rattle.slotmap_links.proofs.Common.{◌∙◌, number_prev}
use Rattle.slotmap_links.proofs.Links.prev.Goals as goal

pub returns : goal.returns
returns c p inside = c.option_of.ensures ∙ number_prev c.self.invariant c.self.view_is p c.args.member inside c.index.result.now c.index.ensures
