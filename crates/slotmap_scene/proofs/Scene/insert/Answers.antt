use Rattle.std.proofs.Common.{◌≡◌}
use Rattle.slotmap_scene.proofs.Common.{Inserts, ap, child, parent_of, placed, subst, sym, with_children_of, ◌∙◌}
use Rattle.slotmap_scene.proofs.Climbs.{rooted_there}
use Rattle.slotmap_scene.proofs.Scene.insert.Goals as goal

pub add-requires-clause-parent : goal.add-requires-clause-parent
add-requires-clause-parent g c = rw c.self.view_is (rooted_there c.args.self.now.nodes.live c.in-Some.parent c.in-Some.ensures.rooted)

pub returns-clause-adds : goal.returns-clause-adds
returns-clause-adds g c = rw (← c.self.view_is)
    (subst (λ o. Inserts (record c.self.inside.nodes.nodes { live = with_children_of c.self.inside.nodes.nodes.live o (placed c.args.side c.args.sibling c.in_ok-add.field-0) })
    c.in_ok-add.field-0 (child o c.args.value) c.add.new.self.nodes) (c.in-Some.ensures.value ∙ ap (λ s. parent_of s.nodes.live c.args.sibling) (sym c.self.view_is)) c.in_ok-add.ensures.adds)

pub returns-clause-gains : goal.returns-clause-gains
returns-clause-gains g c p is = (let h = c.in-Some.ensures.value ∙ is in let at : c.in-Some.parent ≡ p = cc in rw (← c.self.view_is, ← at) c.in_ok-add.ensures.gains)

pub returns-clause-stale : goal.returns-clause-stale
returns-clause-stale g c = rw (← c.self.view_is) c.add.ensures.stale
