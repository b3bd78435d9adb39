use Rattle.std.proofs.Common.{◌+◌}
use Rattle.slotmap_basic.proofs.Common.{dec_lt, even_chunk, arith}
use Rattle.slotmap_basic.proofs.columns.odds.next_chunk.Goals as goal

pub loop-at-preserved : goal.loop-at-preserved
loop-at-preserved c =
    let at = c.loop-at.at in (
      omega arith,
      (
        omega (arith, c.loop-at-test.true),
        λ i v on below read. elim (dec_lt i at) [
          | yes p ↦ c.loop-at.invariant.1.1 i v on p read
          | no p ↦ even_chunk c.args.versions.now (at + 64) c.bits_of_chunk-bits.result c.bits_of_chunk-bits.ensures c.if-bits-ne0.false i v (omega arith) below read
        ],
      ),
    )
