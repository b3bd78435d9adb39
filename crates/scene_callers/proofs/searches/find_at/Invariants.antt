use Rattle.std.proofs.Common.{◌≢◌, take}
use Rattle.std.specs.List.{All}
use Rattle.scene_callers.proofs.searches.find_at.Given as goal

abbrev pub invariant-loop-node : goal.invariant-loop-node
invariant-loop-node l = All (λ e. e.1 ≢ l.fn.place) (take l.node-index l.node-items)
