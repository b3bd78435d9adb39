use Rattle.slotmap_secondary.proofs.Common.{sym, ◌∙◌, entry-same, entry-newer}
use Rattle.slotmap_secondary.proofs.slot.Slot.find.Goals as goal

pub returns-then-stored-version : goal.returns-then-stored-version
returns-then-stored-version g c = entry-same _ _ c.requires.odd c.requires.marked (sym c.version-stored.ensures ∙ c.if-stored-version.true)

pub returns-else-is_older_version : goal.returns-else-is_older_version
returns-else-is_older_version g c = entry-newer _ _ _ c.version-stored.ensures c.if-stored-version.false (sym c.is_older_version.ensures ∙ c.if-is_older_version.false)
