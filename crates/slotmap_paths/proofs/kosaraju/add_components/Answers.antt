use Rattle.std.proofs.Common.{◌≡◌, length, inl, inr, arith, map as list_map}
use Rattle.std.proofs.lemmas.List.{length-map}
use Rattle.slotmap_bounded.proofs.Counts.{none_behind}
use Rattle.slotmap_paths.proofs.Gathered.{collecting_start, is_last, last_or_behind, last_split, live_there}
use Rattle.slotmap_paths.proofs.kosaraju.add_components.Goals as goal

pub loop-left-init : goal.loop-left-init
loop-left-init g c = record {
  within = omega arith;
  collecting = rw c.requires.none (collecting_start c.args.graph.now c.args.marks.now.pairs c.requires.unmarked);
  done = λ x more. absurd (none_behind (list_map g.K.Key.data_of c.args.order.now) (length c.args.order.now) x (omega (arith, length-map c.args.order.now g.K.Key.data_of)) more);
}

pub add_component-requires-clause-live : goal.add_component-requires-clause-live
add_component-requires-clause-live g c =
    let i = c.loop-left.invariant in
    let split = last_split g.K.Key.data_of c.args.order.now c.loop-left.left c.index-order-left.result c.loop-left-test.true i.within c.index-order-left.is in
    live_there c.args.graph.now c.node_count.ensures.joined _ c.requires.once c.requires.in_order c.loop-left.marks.pairs i.collecting.closed _ _ _ split i.done

pub add_component-requires-clause-last : goal.add_component-requires-clause-last
add_component-requires-clause-last g c =
    let i = c.loop-left.invariant in
    let split = last_split g.K.Key.data_of c.args.order.now c.loop-left.left c.index-order-left.result c.loop-left-test.true i.within c.index-order-left.is in
    is_last c.args.graph.now c.node_count.ensures.joined _ c.requires.once c.requires.in_order c.loop-left.marks.pairs i.collecting.closed _ _ _ split i.done

pub loop-left-preserved : goal.loop-left-preserved
loop-left-preserved g c =
    let i = c.loop-left.invariant in
    record {
      within = omega (arith, i.within);
      collecting = c.in_ok-add_component.ensures.collecting;
      done = λ x more. elim (last_or_behind g.K.Key.data_of c.args.order.now c.loop-left.left c.index-order-left.result c.loop-left-test.true i.within c.index-order-left.is x more) [
        | inl is ↦ rw is c.in_ok-add_component.ensures.there
        | inr old ↦ c.in_ok-add_component.ensures.kept x (i.done x old)
      ];
    }

pub returns-clause-all : goal.returns-clause-all
returns-clause-all g c = λ x live.
    let zero : c.loop-left.left ≡ 0 = omega (arith, c.loop-left-test.false) in
    c.loop-left.invariant.done x (rw zero (grind (arith, c.requires.once x, live)))
