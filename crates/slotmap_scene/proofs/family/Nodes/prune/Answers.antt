use Rattle.slotmap_scene.proofs.Common.{ap, children_in, children_of, is_some, leaves_in_turn, option_map, parent_in, parent_of, refl, rules, sym, times, times_gone, without, ◌∙◌}
use Rattle.slotmap_scene.proofs.{Moved.filled_memory, Moved.leaves_filled, Moved.left_of, Removals.childless}
use Rattle.slotmap_scene.proofs.family.Nodes.prune.Goals as goal

pub remove-requires : goal.remove-requires
remove-requires g c =
    let k = c.args.node in
    rw (c.leave.ensures) (record {
      there = left_of c.requires.scene k is_some (λ b. b) refl (λ n. refl) k ∙ c.requires.there;
      leaf = left_of c.requires.scene k children_in (without k) refl (λ n. refl) k ∙ ap (without k) c.requires.leaf;
      alone = λ q. ap (times k) (left_of c.requires.scene k children_in (without k) refl (λ n. refl) q) ∙ times_gone k (children_of c.args.self.now.nodes.live q);
      childless = λ q is. childless c.args.self.now.nodes.live c.requires.scene k c.requires.there c.requires.leaf q (sym (left_of c.requires.scene k parent_in (λ o. o) refl (λ n. refl) q) ∙ is);
    })

pub returns : goal.returns
returns g c = record {
  value = sym (left_of c.requires.scene c.args.node (option_map (λ n. n.value)) (λ o. o) refl (λ n. refl) c.args.node) ∙ (rw c.leave.ensures at c.remove.ensures.value);
  leaves = leaves_in_turn _ _ _ (rw c.leave.ensures (leaves_filled c.args.self.now.nodes (parent_of c.args.self.now.nodes.live c.args.node) (without c.args.node))) c.remove.ensures.leaves;
  live = search rules;
  capacity = c.remove.ensures.capacity ∙ rw c.leave.ensures (filled_memory c.args.self.now (parent_of c.args.self.now.nodes.live c.args.node) (without c.args.node));
}
