use Rattle.slotmap_graph.proofs.Common.{covered}
use Rattle.slotmap_graph.proofs.lists.cover.Goals as goal

pub returns-clause-grows : goal.returns-clause-grows
returns-clause-grows c = covered c.args.links.now c.members.ensures.disjoint _ _ _ c.cover_members.new.self c.cover_members.result c.in_ok-cover_owners.ensures.ok
    c.cover_members.ensures.ok c.cover_members.ensures.err
