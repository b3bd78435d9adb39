use Rattle.std.proofs.Common.{ℕ, ap, arith, ◌∙◌, nat_cmp}
use Rattle.std.specs.FinMap as map
use Rattle.slotmap_entities.proofs.tables.SparseSecondaryMapTable.clear.Goals as goal

pub returns-clause-gives_back : goal.returns-clause-gives_back
returns-clause-gives_back g c i count fit =
    let none = ap map.len c.clear.ensures.empty ∙ map.len-empty nat_cmp (ℕ × g.row.C.Denot) in
    let grows = c.clear.ensures.capacity in
    omega arith

pub returns-clause-room : goal.returns-clause-room
returns-clause-room g c i count fit = let more = returns-clause-gives_back g c i count fit in omega arith
