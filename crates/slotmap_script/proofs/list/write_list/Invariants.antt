use Rattle.std.proofs.Common.{◌≡◌, ℕ, List, ◌++◌}
use Rattle.std.specs.Io.KnownBytes.{Appends}
use Rattle.slotmap_script.proofs.Pieces.{begun_text}
use Rattle.slotmap_script.proofs.list.write_list.Given as goal

-- the slots so far are written, or they are in the piece
abbrev pub invariant-loop-i : goal.invariant-loop-i
invariant-loop-i g l =
    let contents = g.W.Write.contents in
    (part : List ℕ) × Appends (contents l.fn.output) (contents l.output) part × (part ++ l.piece.items ≡ begun_text l.slots l.i)
