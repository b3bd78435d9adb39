use Rattle.slotmap_links.proofs.Common.{◌∙◌, arith, taken_prev_below, taken_next_below, take_fits, take_written}
use Rattle.slotmap_links.proofs.between.take_between.Goals as goal

pub slice_copy_out-link : goal.slice_copy_out-link
slice_copy_out-link c = c.requires.kept.within c.args.owner c.args.member c.requires.listed

pub set_next-requires-clause-at : goal.set_next-requires-clause-at
set_next-requires-clause-at c = taken_prev_below c.args.ends.now c.args.links.now c.requires.kept c.args.owner c.requires.owner c.args.member c.requires.listed (record { prev = 0; next = 0 })

pub set_prev-requires-clause-at : goal.set_prev-requires-clause-at
set_prev-requires-clause-at c = rw (c.set_next.auto.links) (taken_next_below c.args.ends.now c.args.links.now c.requires.kept c.args.owner c.requires.owner c.args.member
    c.requires.listed (record { prev = 0; next = 0 }))

pub overflow_sub-ends : goal.overflow_sub-ends
overflow_sub-ends c =
    let fits = take_fits c.args.ends.now c.args.links.now c.requires.kept c.args.owner c.requires.owner c.args.member c.requires.listed (record { prev = 0; next = 0 })
    c.set_next.new.ends c.set_prev.new.ends (c.set_prev.auto.ends ∙ c.set_next.auto.ends) c.set_next.ensures.ends c.set_prev.ensures.ends (record { first = 0; last = 0; len = 0 }) in
    omega arith

pub returns : goal.returns
returns c =
    take_written c.args.ends.now c.args.links.now c.requires.kept c.args.owner c.requires.owner c.args.member c.requires.listed (record { prev = 0; next = 0 })
    c.set_next.new.ends c.set_prev.new.ends (c.set_prev.auto.ends ∙ c.set_next.auto.ends) c.set_next.ensures.ends c.set_prev.ensures.ends (record { first = 0; last = 0; len = 0 })
    c.set_next.new.links c.set_prev.new.links (c.set_prev.auto.links ∙ c.set_next.auto.links) c.set_next.ensures.links c.set_prev.ensures.links
