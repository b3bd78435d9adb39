-- What a holder ends as, once what it lent is returned.
use Rattle.std.specs.Prelude.{Some}
use Rattle.std.specs.Borrow.{Lends, MutBor, Fml, RattleType}
use Rattle.slotmap_c.specs.declared.holder.Holder.{Holder}
use Rattle.slotmap_c.specs.contracts.holder.Holder.{the_row}

-- h with another value
abbrev pub with_held : {M : Type 0} → Holder M → M → Holder M
with_held h x = record h { held = Some x }

-- s ends with the last value behind r
abbrev pub LendsHeld : (R : RattleType) → MutBor (Holder R.Denot) → MutBor R.Denot → Fml
LendsHeld R s r = Lends (the_row R) R s r (with_held s.now)
