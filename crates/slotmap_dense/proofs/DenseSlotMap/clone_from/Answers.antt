use Rattle.slotmap_core.proofs.Common.{rules, arith, common_steps}
use Rattle.slotmap_dense.proofs.DenseSlotMap.clone_from.Goals as goal

pub returns : goal.returns
returns g c = record {
  clones = search rules;
  order = search rules;
  copies_if_clones_equal = search rules;
  order_if_clones_equal = search rules;
  unchanged = grind (arith, common_steps);
  valid = search rules;
}
