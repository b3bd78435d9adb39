use Rattle.std.specs.FinMap as map
use Rattle.std.proofs.Common.{◌≡◌, sym, ◌∙◌, arith}
use Rattle.slotmap_core.specs.Words.{keyed}
use Rattle.slotmap_core.proofs.SecondaryMaps.KeyedLemmas.{len-keyed}
use Rattle.slotmap_c.proofs.SideLemmas.{no_keys}
use Rattle.slotmap_c.proofs.side.slotmap_side_list.Goals as goal

pub returns-then-is_closed-clause-count : goal.returns-then-is_closed-clause-count
returns-then-is_closed-clause-count c =
    let pairs = c.args.this.now.side.pairs in
    let empty : 0 ≡ map.len (keyed pairs) = no_keys c.args.this.now.side (c.is_closed.ensures.2 c.if-is_closed.true) ∙ sym (len-keyed pairs) in
    omega (arith, empty)
