use Rattle.slotmap_dense.proofs.Common.{common_steps, arith, row-payload, row-with_payload}
use Rattle.slotmap_dense.proofs.rows.RowsLayoutU32.payload_mut.Goals as goal

pub returns : goal.returns
returns c = grind (arith, common_steps, row-with_payload, row-payload)
