use Rattle.slotmap_core.proofs.Common.{arith, w64, bit_at-trailing_zeros}
use Rattle.slotmap_basic.proofs.columns.odds.lowest.Goals as goal

pub returns : goal.returns
returns c = let h = bit_at-trailing_zeros w64 c.args.bits (omega (arith, c.requires)) c.ranges.bits.fits in record { bound = h.0; set = h.1; below = h.2 }
