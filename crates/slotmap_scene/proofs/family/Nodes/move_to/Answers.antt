use Rattle.slotmap_scene.proofs.Common.{IfSome_then, Some, put_in_place, rules, same_Some, ◌∙◌}
use Rattle.slotmap_scene.proofs.Moved.{hung_alone, hung_keys, hung_sibling, keys_placed, moved_placed, placed_memory, scene_placed, spent_alike, times_put, values_placed}
use Rattle.slotmap_scene.proofs.family.Nodes.move_to.Goals as goal

pub attach-requires : goal.attach-requires
attach-requires g c =
    let o = Some c.args.parent in
    rw (c.set_parent.ensures, c.leave.ensures) (record {
      node = hung_keys c.requires.scene c.args.node o c.args.node ∙ c.requires.node;
      parent = hung_keys c.requires.scene c.args.node o c.args.parent ∙ c.requires.parent;
      sibling = IfSome_then c.args.sibling c.requires.sibling (hung_sibling c.requires.scene c.args.node o c.args.parent);
      alone = hung_alone c.requires.scene c.args.node o;
    })

pub returns : goal.returns
returns g c =
    let o = Some c.args.parent in
    let put = put_in_place c.args.side c.args.sibling c.args.node in
    rw (c.attach.ensures, c.set_parent.ensures, c.leave.ensures) (record {
      trees = moved_placed c.requires.scene c.args.node o put c.requires.node c.requires.parent;
      values = values_placed c.requires.scene c.args.node o put;
      scene = scene_placed c.requires.scene c.args.node o put c.requires.node c.requires.parent (λ x ks. times_put c.args.node x c.args.side c.args.sibling ks)
          (λ p is within. c.requires.no_cycle (rw (same_Some _ _ is) within));
      stale = spent_alike c.args.self.now.nodes _ (keys_placed c.requires.scene c.args.node o put);
      capacity = placed_memory c.args.self.now _ (keys_placed c.requires.scene c.args.node o put);
      moved = search rules;
    })
