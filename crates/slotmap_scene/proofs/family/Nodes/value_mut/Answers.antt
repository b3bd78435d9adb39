use Rattle.slotmap_scene.proofs.Common.{Forest, ap, arith, forest, same_lent, same_unlent, sym, with_trees, with_value, ◌∙◌}
use Rattle.std.specs.Vec.{vec_capacity}
use Rattle.slotmap_scene.proofs.{Families.seen_value, SceneSteps.written_kept, SceneSteps.written_seen}
use Rattle.slotmap_scene.proofs.family.Nodes.value_mut.Goals as goal

pub invariant_of-self-lent : goal.invariant_of-self-lent
invariant_of-self-lent g c = λ w. written_kept c.self.invariant c.args.node c.in-Some.value.now w (sym c.in-Some.ensures.value)

pub returns-in-Some : goal.returns-in-Some
returns-in-Some g c =
    let k = c.args.node in (
      same_lent _ _ _ (λ w. ap (λ x. with_trees (forest c.self.inside.values c.self.inside.parents.items c.self.inside.children (vec_capacity c.self.inside.parents)) x)
          (written_seen c.self.invariant k c.in-Some.value.now w (sym c.in-Some.ensures.value))
          ∙ ap (λ (s : Forest g.row.T.Denot). with_trees s (with_value s.nodes.live k w)) c.self.view_is),
      record {
        writes_back = tt;
        value = rw (← c.self.view_is)
            (c.in-Some.ensures.value ∙ sym (seen_value c.self.inside.values.live c.self.inside.parents.items c.self.inside.children k));
      },
    )

pub returns-in-None : goal.returns-in-None
returns-in-None g c = grind (arith, same_unlent, seen_value c.self.inside.values.live c.self.inside.parents.items c.self.inside.children c.args.node, c.in-None.ensures.value)
