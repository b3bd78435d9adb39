use Rattle.std.proofs.Common.{◌≡◌, ◌+◌, ◌%◌}
use Rattle.slotmap_basic.proofs.Common.{get_or-chunk, get_or, ap, ◌∙◌, arith}
use Rattle.slotmap_basic.proofs.columns.odds.bits_of_chunk.Goals as goal

pub returns : goal.returns
returns c i k l e on =
    c.odd_lanes.ensures k l ∙ ap (λ x. x % 2) (get_or-chunk c.args.at 64 c.args.versions.now k 0 l)
    ∙ ap (λ j. get_or c.args.versions.now j 0 % 2) (let same : c.args.at + k ≡ i = omega arith in same)
