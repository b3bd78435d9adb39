use Rattle.std.proofs.Common.{◌≡◌}
use Rattle.slotmap_basic.proofs.Common.{versions_of, slot_list-versions, ◌∙◌, sym}
use Rattle.slotmap_basic.proofs.columns.Columns.next_odd.Goals.{After-deref}
use Rattle.slotmap_basic.proofs.columns.Columns.next_odd.Goals as goal

-- the versions that are read are those of the slots
read : (g : _) (c : After-deref g) → c.deref.result.now ≡ versions_of c.args.self.now.slots
read g c = c.deref.ensures.value ∙ sym (slot_list-versions c.self.invariant c.self.view_is)

pub step-requires : goal.step-requires
step-requires g c = rw (read g (goal.at.step-requires g c).After-deref) c.requires

pub returns-clause-next : goal.returns-clause-next
returns-clause-next g c = rw (← read g (goal.at.returns-clause-next g c).After-deref) c.step.ensures.next

pub returns-clause-none : goal.returns-clause-none
returns-clause-none g c = rw (← read g (goal.at.returns-clause-none g c).After-deref) c.step.ensures.none

pub returns-clause-ahead : goal.returns-clause-ahead
returns-clause-ahead g c = rw (← read g (goal.at.returns-clause-ahead g c).After-deref) c.step.ensures.ahead
