use Rattle.std.proofs.Common.{◌≡◌, ap, option_map, refl, ◌∙◌}
use Rattle.slotmap_bounded.specs.Changed.{changed}
use Rattle.slotmap_scene.specs.{Below.all_below, Family.behind, Node.Forest, Node.with_trees}
use Rattle.slotmap_scene.proofs.Callers.{below_changed, below_end, below_here, below_less, below_others, below_start, below_still}
use Rattle.scene_callers.specs.declared.dirty.Part.{Part}
use Rattle.scene_callers.specs.Marked.{dirtied}
use Rattle.scene_callers.proofs.dirty.mark_below.Goals as goal

pub loop-at-init : goal.loop-at-init
loop-at-init g c = record { goes = below_start _ c.len.ensures.scene _ _ (c.next_below-at.ensures.first refl) _ _ (λ k. refl); below = refl; rest = refl }

-- the key behind this one, among those that were below the node at first
after : (g : _) (c : goal.After-next_below-at-in-Some g)
    → option_map g.K.Key.data_of c.next_below-at-in-Some.result ≡ behind (g.K.Key.data_of c.in-Some.key) (all_below c.args.scene.now.nodes.live (g.K.Key.data_of c.args.node))
after g c =
    let same = ap (λ s. all_below s.nodes.live (g.K.Key.data_of c.args.node)) c.mark.ensures ∙ below_still _ _ dirtied (λ n. refl) _ ∙ c.loop-at.invariant.below in
    c.next_below-at-in-Some.ensures.along (rw same (below_here _ _ _ _ (rw c.in-Some.is at c.loop-at.invariant.goes))) ∙ ap (behind (g.K.Key.data_of c.in-Some.key)) same

pub loop-at-preserved : goal.loop-at-preserved
loop-at-preserved g c = rw c.mark.ensures (record {
  goes = below_changed _ _ dirtied _ _ (rw c.in-Some.is at c.loop-at.invariant.goes) _ (after g c);
  below = below_still _ _ dirtied (λ n. refl) _ ∙ c.loop-at.invariant.below;
  rest = ap (λ (s : Forest Part). with_trees s (changed c.loop-at.scene.nodes.live (g.K.Key.data_of c.in-Some.key) dirtied)) c.loop-at.invariant.rest;
})

pub loop-at-smaller : goal.loop-at-smaller
loop-at-smaller g c = rw c.in-Some.is (below_less _ _ _ _ (rw c.in-Some.is at c.loop-at.invariant.goes) _ (after g c))

pub returns-clause-marked : goal.returns-clause-marked
returns-clause-marked g c k more = below_end _ _ _ (rw c.in_default.is at c.loop-at.invariant.goes) k more

pub returns-clause-others : goal.returns-clause-others
returns-clause-others g c k none = below_others _ _ _ (rw c.in_default.is at c.loop-at.invariant.goes) k none
