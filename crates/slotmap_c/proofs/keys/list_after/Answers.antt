use Rattle.std.proofs.Common.{◌<◌, length, min, ap, sym, ◌∙◌, arith}
use Rattle.slotmap_core.specs.Words.{ffi}
use Rattle.slotmap_c.specs.Calls.{above}
use Rattle.slotmap_c.proofs.ArrayLemmas.{one_more, left_next, writes_next, all_written_keys}
use Rattle.std.specs.FinMap as map
use Rattle.slotmap_c.proofs.keys.list_after.Goals as goal

pub loop-count-preserved : goal.loop-count-preserved
loop-count-preserved c =
    let at = c.loop-count.invariant in
    let pairs = map.entries (above c.args.start.index c.args.inside.now.live) in
    let left = at.left ∙ c.in-Some.ensures.some in
    let n = c.loop-count.count in
    let in_keys : n < length c.loop-count.keys = Prim.search (arith) in
    let within : n < length pairs = one_more pairs _ _ n left in
    record {
      within = omega (arith, within);
      in_keys = omega (arith, in_keys, at.keys.length);
      left = left_next pairs _ _ n left;
      keys = writes_next pairs _ _ n left (λ pair. ffi pair.0) _ _ _ in_keys c.in-Some.ensures.number at.keys;
    }

pub returns-in_default-clause-count : goal.returns-in_default-clause-count
returns-in_default-clause-count c =
    let at = c.loop-count.invariant in
    all_written_keys _ _ _ (at.left ∙ c.in_default.ensures.none) at.within at.in_keys
    ∙ ap (min _) (sym (map.len-entries (above c.args.start.index c.args.inside.now.live)))

pub returns-after-loop-count-clause-count : goal.returns-after-loop-count-clause-count
returns-after-loop-count-clause-count c =
    let at = c.loop-count.invariant in
    let len = map.len-entries (above c.args.start.index c.args.inside.now.live) in
    omega (arith, len, at.within, at.in_keys, at.keys.length, c.loop-count-test.false)
