use Rattle.slotmap_entities.proofs.Common.{false, is_some, sym, ap, ◌∙◌, leaves_none, leaves_by_removal, remove_spent-dense, spent_remove-dense, removed_live}
use Rattle.slotmap_entities.proofs.World.despawn.Goals as goal

pub invariant_of-self-2 : goal.invariant_of-self-2
invariant_of-self-2 g c =
    removed_live c.self.inside.entities.content (g.T.Tables.has c.self.inside.tables) c.self.invariant c.remove.new.self.content (g.K.Key.data_of c.args.key) _
    c.remove.ensures.live c.remove-2.ensures.no_component (λ q other. (c.remove-2.ensures.others q other).0)

pub returns-clause-for_good : goal.returns-clause-for_good
returns-clause-for_good g c live = rw c.in_ok-value.was at (remove_spent-dense _ _ _ _ c.remove.ensures.valid c.remove.ensures.value c.remove.ensures.removes)

pub returns-clause-leaves : goal.returns-clause-leaves
returns-clause-leaves g c = rw (← c.self.view_is)
    (leaves_by_removal false c.self.inside.entities.content c.remove.ensures.valid.before.content _ (ap is_some (sym c.remove.ensures.value ∙ c.in_ok-value.was)) _ c.in_ok-value.ensures.removes)

pub returns-clause-gone : goal.returns-clause-gone
returns-clause-gone g c = rw (← c.self.view_is) (spent_remove-dense _ _ _ _ c.remove.ensures.valid c.remove.ensures.value c.remove.ensures.removes c.remove.ensures.unchanged)

pub returns-in_err-value-clause-leaves : goal.returns-in_err-value-clause-leaves
returns-in_err-value-clause-leaves g c = rw (← c.self.view_is) (rw (rw c.in_err-value.was at c.remove.ensures.unchanged) (leaves_none c.self.inside.entities.content))

pub returns-in_err-value-clause-room : goal.returns-in_err-value-clause-room
returns-in_err-value-clause-room g c = rw (← c.self.view_is) (g.met.T.Tables.same_room c.self.inside.tables)
