use Rattle.slotmap_lists.proofs.StableLists.put.Goals as goal
use Rattle.slotmap_lists.proofs.StableLists.put.Goals.{then-not-has_room+in-Ok, else-not-has_room}

pub returns-clause-gone : goal.returns-clause-gone
returns-clause-gone g c k spent = c.put_in_room.ensures.gone k (elim c.if-not-has_room.branch [
  | then-not-has_room+in-Ok w ↦ rw w.self-is (w.reserve.ensures.gone k spent)
  | else-not-has_room w ↦ rw w.self-is spent
])
