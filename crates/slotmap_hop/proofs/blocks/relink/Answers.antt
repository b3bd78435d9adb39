use Rattle.slotmap_hop.proofs.Common.{arith, rules, keeps_both, nexts_both, prev_both, prevs_both, leads_kept}
use Rattle.slotmap_hop.proofs.blocks.relink.Goals as goal

pub set_prev-requires : goal.set_prev-requires
set_prev-requires g c = rw c.back_of-back.ensures c.requires.after.ends

pub set_next-requires : goal.set_next-requires
set_next-requires g c = rw (leads_kept c.set_prev.ensures.links.same c.args.before) c.requires.before

pub returns-clause-links : goal.returns-clause-links
returns-clause-links g c = search (rules, arith, prev_both, nexts_both, prevs_both)

pub returns-clause-ends : goal.returns-clause-ends
returns-clause-ends g c = keeps_both c.requires.after c.back_of-back.ensures c.set_prev.ensures.links c.set_next.ensures.links
