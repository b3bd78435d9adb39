use Rattle.std.proofs.Common.{ap}
use Rattle.slotmap_bounded.proofs.Alone.{alone-copy, used_alone}
use Rattle.slotmap_links.specs.Lists.{Lists}
use Rattle.slotmap_list.proofs.{Copies.clones_are_same, Keeps.elements_cloned, Keeps.kept_cloned}
use Rattle.slotmap_list.proofs.StableList.clone.Goals as goal

pub invariant_of-result : goal.invariant_of-result
invariant_of-result g c = kept_cloned g.T.Clone.is_clone c.self.invariant c.in_ok-clone.ensures.clones c.in_ok-clone.ensures.bound c.in_ok-clone-2.field-0
    (ap (λ (s : Lists). s.lists) c.in_ok-clone-2.ensures) (ap (λ (s : Lists). s.members) c.in_ok-clone-2.ensures)

pub returns-clause-clones : goal.returns-clause-clones
returns-clause-clones g c = rw (c.in_ok-clone-2.ensures, ← c.self.view_is) (elements_cloned g.T.Clone.is_clone c.self.invariant c.in_ok-clone.ensures.clones)

pub returns-clause-same_if_clones_equal : goal.returns-clause-same_if_clones_equal
returns-clause-same_if_clones_equal g c same = clones_are_same g.T.Clone.is_clone same _ _ (returns-clause-clones g c)

pub returns-clause-cursors : goal.returns-clause-cursors
returns-clause-cursors g c = rw (← c.self.view_is) (alone-copy _ _ _ c.in_ok-clone.ensures.clones)

pub returns-clause-capacity : goal.returns-clause-capacity
returns-clause-capacity g c = rw (← c.self.view_is, used_alone c.self.inside.values, used_alone c.in_ok-clone.field-0) c.in_ok-clone.ensures.bound

pub returns-clause-room : goal.returns-clause-room
returns-clause-room g c = rw (← c.self.view_is) c.in_ok-clone.ensures.room
