use Rattle.std.proofs.Common.{sym, ap, ◌∙◌}
use Rattle.slotmap_core.specs.Words.{ffi}
use Rattle.slotmap_c.proofs.SideLemmas.{pair_numbered}
use Rattle.slotmap_c.proofs.side.pair_at.Goals as goal

pub returns-in-Some : goal.returns-in-Some
returns-in-Some c =
    let there = c.in-Some.ensures.there in
    let number = c.as_ffi.ensures.value ∙ ap ffi c.data.ensures.value in
    rw number (sym (pair_numbered c.args.inside.now.pairs _ c.args.index _ there.1 c.get_unchecked.ensures.value))
