use Rattle.std.proofs.Common.{◌<◌, length, min, refl, ap, sym, ◌∙◌, arith}
use Rattle.slotmap_core.specs.Words.{ffi, keyed}
use Rattle.slotmap_c.proofs.ArrayLemmas.{one_more, left_next, writes_next, all_written}
use Rattle.std.specs.FinMap as map
use Rattle.slotmap_c.proofs.side.list.Goals as goal

pub loop-key-preserved : goal.loop-key-preserved
loop-key-preserved c =
    let at = c.loop-key.invariant in
    let pairs = map.entries (keyed c.args.inside.now.pairs) in
    let left = at.left ∙ c.in-Some.ensures.steps in
    let n = c.loop-key.count in
    let in_keys : n < length c.loop-key.keys = Prim.search (arith) in
    let in_values : n < length c.loop-key.values = Prim.search (arith) in
    let within : n < length pairs = one_more pairs _ _ n left in
    record {
      within = omega (arith, within);
      in_keys = omega (arith, in_keys, at.keys.length);
      in_values = omega (arith, in_values, at.values.length);
      left = left_next pairs _ _ n left;
      keys = writes_next pairs _ _ n left (λ pair. ffi pair.0) _ _ _ in_keys (c.as_ffi.ensures.value ∙ ap ffi c.data.ensures.value) at.keys;
      values = writes_next pairs _ _ n left (λ pair. pair.1) _ _ _ in_values refl at.values;
    }

pub returns-in-None-clause-count : goal.returns-in-None-clause-count
returns-in-None-clause-count c =
    let at = c.loop-key.invariant in
    all_written _ _ _ _ (at.left ∙ c.in-None.ensures.steps.0) at.within at.in_keys at.in_values ∙ ap (min _) (sym (map.len-entries (keyed c.args.inside.now.pairs)))
