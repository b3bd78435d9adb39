use Rattle.slotmap_links.proofs.Common.{◌∙◌, arith, prev_below, next_below, put_fits, put_written}
use Rattle.std.proofs.lemmas.List.{length-set}
use Rattle.slotmap_links.proofs.between.put_between.Goals as goal

pub set_next-requires-clause-at : goal.set_next-requires-clause-at
set_next-requires-clause-at c = rw (length-set c.args.links.now c.args.member _) (prev_below c.args.ends.now c.args.links.now c.requires.kept c.args.owner c.requires.owner _ _ c.requires.place)

pub set_prev-requires-clause-at : goal.set_prev-requires-clause-at
set_prev-requires-clause-at c = rw (c.set_next.auto.links, length-set c.args.links.now c.args.member _)
    (next_below c.args.ends.now c.args.links.now c.requires.kept c.args.owner c.requires.owner _ _ c.requires.place)

pub overflow_add-ends : goal.overflow_add-ends
overflow_add-ends c =
    let fits = put_fits c.args.ends.now c.args.links.now c.requires.kept c.args.owner c.requires.owner c.args.member c.requires.member c.requires.free
    (record { prev = c.args.prev; next = c.args.next }) c.set_next.new.ends c.set_prev.new.ends (c.set_prev.auto.ends ∙ c.set_next.auto.ends)
    c.set_next.ensures.ends c.set_prev.ensures.ends (record { first = 0; last = 0; len = 0 }) in
    omega arith

pub returns : goal.returns
returns c =
    put_written c.args.ends.now c.args.links.now c.requires.kept c.args.owner c.requires.owner c.args.member c.requires.member c.requires.free
    (record { prev = c.args.prev; next = c.args.next }) c.set_next.new.ends c.set_prev.new.ends (c.set_prev.auto.ends ∙ c.set_next.auto.ends)
    c.set_next.ensures.ends c.set_prev.ensures.ends (record { first = 0; last = 0; len = 0 }) c.set_next.new.links c.set_prev.new.links
    (c.set_prev.auto.links ∙ c.set_next.auto.links ∙ length-set c.args.links.now c.args.member _) c.set_next.ensures.links c.set_prev.ensures.links
