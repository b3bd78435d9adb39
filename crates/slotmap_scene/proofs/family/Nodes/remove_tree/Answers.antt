use Rattle.slotmap_scene.proofs.Common.{arith, children_of, leaves_in_turn, leaves_none, none_last, refl, rules, same_keys, sym, ◌∙◌}
use Rattle.slotmap_scene.proofs.KeyLoops.{unlike}
use Rattle.slotmap_scene.proofs.Removals.{all_removed, down_smaller, goes_down, goes_up, others_left, pruned_scene, removing_start, up_smaller}
use Rattle.slotmap_scene.proofs.family.Nodes.remove_tree.Goals as goal

pub loop-child-init : goal.loop-child-init
loop-child-init g c = grind (arith, removing_start c.args.self.now.nodes.live c.args.root c.requires.scene c.requires.there, leaves_none c.args.self.now.nodes)

pub loop-child-smaller-in-Some : goal.loop-child-smaller-in-Some
loop-child-smaller-in-Some g c = down_smaller _ _ _ _ c.loop-child.invariant.removing c.in-Some.child (sym c.in-Some.ensures) c.requires.scene.tree

pub loop-child-preserved-in-Some : goal.loop-child-preserved-in-Some
loop-child-preserved-in-Some g c = record {
  removing = goes_down _ _ _ _ c.loop-child.invariant.removing c.in-Some.child (sym c.in-Some.ensures);
  leaves = c.loop-child.invariant.leaves;
  capacity = c.loop-child.invariant.capacity;
}

pub prune-value-requires-clause-leaf : goal.prune-value-requires-clause-leaf
prune-value-requires-clause-leaf g c = none_last (children_of c.loop-child.self.nodes.live c.loop-child.at) (sym c.in-None.ensures)

pub returns-then-eq : goal.returns-then-eq
returns-then-eq g c =
    let removing = c.loop-child.invariant.removing in
    let leaf = none_last _ (sym c.in-None.ensures) in
    let end = (same_keys c.loop-child.at c.args.root).0 (sym c.if-eq.ensures) in
    record {
      removed = rw (c.prune-value.ensures.live) (all_removed _ _ _ _ removing leaf end);
      others = rw (c.prune-value.ensures.live) (others_left _ _ _ _ removing leaf end);
      scene = rw (c.prune-value.ensures.live) (pruned_scene _ removing.scene c.loop-child.at removing.here leaf);
      leaves = leaves_in_turn _ _ _ c.loop-child.invariant.leaves c.prune-value.ensures.leaves;
      capacity = c.prune-value.ensures.capacity ∙ c.loop-child.invariant.capacity;
      value = search rules;
    }

pub loop-child-smaller : goal.loop-child-smaller
loop-child-smaller g c = rw (c.prune-value.ensures.live)
    (up_smaller _ _ _ _ c.loop-child.invariant.removing (none_last _ (sym c.in-None.ensures)) c.in-Some-parent.parent
    (sym c.parent-parent.ensures ∙ c.in-Some-parent.is) c.requires.scene.tree)

pub loop-child-preserved : goal.loop-child-preserved
loop-child-preserved g c =
    let below = unlike c.loop-child.at c.args.root refl refl c.if-eq.ensures in
    record {
      removing = rw (c.prune-value.ensures.live)
          (goes_up _ _ _ _ c.loop-child.invariant.removing (none_last _ (sym c.in-None.ensures)) c.in-Some-parent.parent
          (sym c.parent-parent.ensures ∙ c.in-Some-parent.is) below);
      leaves = leaves_in_turn _ _ _ c.loop-child.invariant.leaves c.prune-value.ensures.leaves;
      capacity = c.prune-value.ensures.capacity ∙ c.loop-child.invariant.capacity;
    }
