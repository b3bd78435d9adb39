use Rattle.slotmap_lists.proofs.Common.{sym, ap, ◌∙◌, key_there, key_found}
use Rattle.slotmap_lists.proofs.key_at.Goals as goal

pub returns-clause-value : goal.returns-clause-value
returns-clause-value g c = key_found c.args.values.now g.K.Key.data_of c.in_ok-index.field-0 c.key_at.result c.len.ensures.valid c.key_at.ensures.live c.key_at.ensures.index
    c.key_at.ensures.none ∙ ap (key_there c.args.values.now.live) (sym c.in_ok-index.was)
