use Rattle.slotmap_links.proofs.SeenLists.{free_here, kept_written, place_at, seen_written}
use Rattle.slotmap_links.proofs.Links.put.Goals as goal

pub put_between-requires-clause-free : goal.put_between-requires-clause-free
put_between-requires-clause-free c = rw (c.deref_mut.ensures.value, c.deref_mut-2.ensures.value) (free_here c.self.invariant c.self.view_is c.args.member c.requires.free)

pub put_between-requires-clause-place : goal.put_between-requires-clause-place
put_between-requires-clause-place c = rw (c.deref_mut.ensures.value, c.deref_mut-2.ensures.value) (place_at c.self.invariant c.self.view_is c.args.owner c.requires.place)

pub invariant_of-self : goal.invariant_of-self
invariant_of-self c = kept_written c.self.inside.ends c.self.inside.links c.args.owner _ _ _
    ((rw (c.deref_mut.ensures.value, c.deref_mut-2.ensures.value) at c.put_between.ensures) (place_at c.self.invariant c.self.view_is c.args.owner c.requires.place))

pub returns : goal.returns
returns c place = seen_written c.self.inside.ends c.self.inside.links c.args.owner _ _ _
    ((rw (c.deref_mut.ensures.value, c.deref_mut-2.ensures.value) at c.put_between.ensures) (place_at c.self.invariant c.self.view_is c.args.owner place))
    c.args.self.now c.self.view_is c.requires.owner
