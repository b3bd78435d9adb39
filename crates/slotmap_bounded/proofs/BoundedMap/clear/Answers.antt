use Rattle.std.proofs.Common.{arith, ap, is_some, ◌∙◌}
use Rattle.slotmap.proofs.Callers.{leaves_in_turn, none_found}
use Rattle.slotmap_bounded.proofs.BoundedMap.clear.Goals as goal

pub loop-key-preserved : goal.loop-key-preserved
loop-key-preserved g c = let so_far = c.loop-key.invariant in let removed = c.remove_live.ensures in record {
  above = λ k live. let was = removed.leaves.no_more k live in omega (arith, c.in-Some.ensures.first k was (so_far.above k was), removed.gone k live);
  leaves = leaves_in_turn c.args.self.now c.loop-key.self c.remove_live.new.self so_far.leaves removed.leaves;
  stays = record { before = so_far.stays.before; after = removed.valid.after; capacity = removed.valid.capacity ∙ so_far.stays.capacity };
  bound_is = removed.bound ∙ so_far.bound_is;
}

pub returns-clause-empty : goal.returns-clause-empty
returns-clause-empty g c = none_found c.loop-key.self.live
    (λ k v found. let live = ap is_some found in absurd (omega (arith, c.in_default.ensures.none k live, c.loop-key.invariant.above k live)))
