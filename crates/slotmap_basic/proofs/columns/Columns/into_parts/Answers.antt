use Rattle.slotmap_basic.proofs.Common.{ap, uses_of, uses-length}
use Rattle.slotmap_basic.proofs.columns.Columns.into_parts.Goals as goal

pub returns : goal.returns
returns g c =
    let m = c.self.inside in
    (uses_of m.versions.items m.numbers.items, uses-length m.versions.items m.numbers.items c.self.invariant.numbers_length, c.self.invariant.payloads_length, ap (λ l. l.slots) c.self.view_is)
