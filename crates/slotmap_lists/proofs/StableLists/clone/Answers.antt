use Rattle.slotmap_lists.proofs.Common.{ap, used_alone, Lists}
use Rattle.std.proofs.lemmas.List.Elements.{same_from_all_zip}
use Rattle.slotmap_bounded.proofs.Alone.{alone-copy}
use Rattle.slotmap_list.proofs.Copies.{clones_are_same}
use Rattle.slotmap_lists.proofs.Callers.{lists_alike}
use Rattle.slotmap_lists.proofs.Copied.{listed_cloned, each_cloned, as_many_cloned}
use Rattle.slotmap_lists.proofs.StableLists.clone.Goals as goal

pub invariant_of-result : goal.invariant_of-result
invariant_of-result g c =
    let homes = same_from_all_zip _ c.self.inside.homes.items c.in_ok-clone-3.field-0.items c.in_ok-clone-3.ensures.cases.0 (λ x y is. is) in
    listed_cloned g.T.Clone.is_clone c.self.invariant c.in_ok-clone.ensures.clones c.in_ok-clone.ensures.bound _ homes c.in_ok-clone-2.field-0
    (ap (λ (s : Lists). s.lists) c.in_ok-clone-2.ensures) (ap (λ (s : Lists). s.members) c.in_ok-clone-2.ensures)

pub returns-clause-clones : goal.returns-clause-clones
returns-clause-clones g c = rw (c.in_ok-clone-2.ensures, ← c.self.view_is) (each_cloned g.T.Clone.is_clone c.self.invariant c.in_ok-clone.ensures.clones)

pub returns-clause-as_many : goal.returns-clause-as_many
returns-clause-as_many g c = rw (c.in_ok-clone-2.ensures, ← c.self.view_is) (as_many_cloned g.T.Clone.is_clone c.self.invariant c.in_ok-clone.ensures.clones)

pub returns-clause-same_if_clones_equal : goal.returns-clause-same_if_clones_equal
returns-clause-same_if_clones_equal g c same = lists_alike _ _ (returns-clause-as_many g c) (λ q. clones_are_same g.T.Clone.is_clone same _ _ (returns-clause-clones g c q))

pub returns-clause-cursors : goal.returns-clause-cursors
returns-clause-cursors g c = rw (← c.self.view_is) (alone-copy _ _ _ c.in_ok-clone.ensures.clones)

pub returns-clause-capacity : goal.returns-clause-capacity
returns-clause-capacity g c = rw (← c.self.view_is, used_alone c.self.inside.values, used_alone c.in_ok-clone.field-0) c.in_ok-clone.ensures.bound

pub returns-clause-room : goal.returns-clause-room
returns-clause-room g c = rw (← c.self.view_is) c.in_ok-clone.ensures.room
