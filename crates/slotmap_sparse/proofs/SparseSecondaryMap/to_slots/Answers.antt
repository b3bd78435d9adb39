use Rattle.std.proofs.Common.{◌+◌}
use Rattle.slotmap_core.proofs.Common.{common_steps}
use Rattle.slotmap_sparse.proofs.Common.{length_push, length, sym, ap, subst, ◌∙◌, arith, Copies-start, Copies-push, writes_clones, contents_clones, writes_equal, contents_equal}
use Rattle.slotmap_sparse.specs.Written.{ReachesLargest, IsCloneSlot}
use Rattle.std.specs.FinMap as map
use Rattle.slotmap_sparse.proofs.SparseSecondaryMap.to_slots.Goals.{After-loop-index}
use Rattle.slotmap_sparse.proofs.SparseSecondaryMap.to_slots.Goals as goal

pub loop-index-init : goal.loop-index-init
loop-index-init g c = grind (arith, Copies-start g.V.Clone.is_clone c.args.self.now.pairs)

pub loop-index-preserved : goal.loop-index-preserved
loop-index-preserved g c =
    let at = c.loop-index in
    let pairs = c.args.self.now.pairs in
    let slot = c.in_ok-record.field-0 in
    let made = subst (λ i. IsCloneSlot g.V.Clone.is_clone (map.get pairs i) slot) (sym at.invariant.long) c.in_ok-record.ensures in
    record {
      long = ap length c.push_reserved.ensures.items ∙ length_push at.slots.items slot ∙ ap (λ n. n + 1) at.invariant.long;
      copied = rw (c.push_reserved.ensures.items) (Copies-push g.V.Clone.is_clone pairs at.slots.items at.invariant.copied slot made);
      room = omega (arith, at.invariant.room, c.push_reserved.ensures.len, c.push_reserved.ensures.capacity);
    }

-- at the end of the loop the records reach up to the largest index
reaches : (g : _) (c : After-loop-index g) → ReachesLargest c.args.self.now.pairs (length c.loop-index.slots.items)
reaches g c = subst (ReachesLargest c.args.self.now.pairs) (omega (arith, c.loop-index.invariant.long, c.loop-index-test.false)) c.place_count-count.ensures.count

pub returns : goal.returns
returns g c = record {
  writes = writes_clones g.V.Clone.is_clone _ _ c.loop-index.invariant.copied (reaches g c) c.place_count-count.ensures.valid.keys;
  contents = contents_clones g.V.Clone.is_clone _ _ c.loop-index.invariant.copied (reaches g c) c.place_count-count.ensures.valid.keys;
  writes_if_clones_equal = writes_equal g.V.Clone.is_clone _ _ c.loop-index.invariant.copied (reaches g c);
  contents_if_clones_equal = λ equal. contents_equal g.V.Clone.is_clone _ _ c.loop-index.invariant.copied (reaches g c) equal c.place_count-count.ensures.valid.keys;
  valid = grind (arith, common_steps);
}
