use Rattle.slotmap_scene.proofs.Common.{Node, ap, arith, inl, is_some, key_cmp, leaves_in_turn, leaves_none, left_spent, none_found, of_some, refl, some-mapped, spent_leaves, true, ◌∙◌}
use Rattle.std.specs.FinMap as map
use Rattle.slotmap_scene.proofs.Scene.clear_each.Goals as goal

pub loop-node-init : goal.loop-node-init
loop-node-init g c = record { above = λ k live. omega arith; leaves = leaves_none c.args.self.now.nodes; capacity = refl }

pub loop-node-smaller : goal.loop-node-smaller
loop-node-smaller g c = omega (arith, of_some _ c.remove.result (ap is_some c.remove.ensures.value ∙ some-mapped _ _ ∙ c.in-Some.ensures.live) c.remove.ensures.fewer)

pub loop-node-preserved : goal.loop-node-preserved
loop-node-preserved g c =
    let so_far = c.loop-node.invariant in
    let found = c.in-Some.ensures in
    let gone = c.remove.ensures in
    let node = g.K.Key.data_of c.in-Some.node in
    record {
      above = λ k live. (let was = gone.leaves.no_more k live in
          let first = found.first k was (so_far.above k was) in
          let apart = found.valid.apart node k (inl (inl found.live)) (inl (inl was)) in
          grind (arith, gone.removed node (0, refl), first, apart, live));
      leaves = leaves_in_turn c.args.self.now.nodes c.loop-node.self.nodes c.remove.new.self.nodes so_far.leaves gone.leaves;
      capacity = gone.capacity ∙ so_far.capacity;
    }

pub returns : goal.returns
returns g c =
    let so_far = c.loop-node.invariant in
    let now = c.loop-node.self.nodes in
    let none = none_found now.live (λ k v found. let live = ap is_some found in absurd (omega (arith, c.in_default.ensures.none k live, so_far.above k live))) in
    record {
      empty = none;
      leaves = so_far.leaves;
      capacity = so_far.capacity;
      for_good = λ k live. left_spent c.args.self.now.nodes now true c.capacity.ensures.valid k so_far.leaves live
          (ap (λ m. map.contains_key m k) none ∙ ap is_some (map.get-empty {X = Node g.row.T.Denot} key_cmp k));
      stale = spent_leaves _ _ so_far.leaves;
    }
