use Rattle.std.proofs.Common.{◌≡◌}
use Rattle.slotmap_basic.proofs.Common.{AllZip, IsCloneOf, zip_length, length, ap, ◌∙◌, arith, uses_of, zip-length, uses-length, option_clones, zip-clones}
use Rattle.slotmap_basic.proofs.columns.ColumnsCopyLayout.copy.Goals as goal

pub returns-clause-clones : goal.returns-clause-clones
returns-clause-clones g c =
    let m = c.self.inside in
    let xs : AllZip (IsCloneOf g.P.Clone.is_clone) m.payloads.items c.in_ok-payloads.payloads.items = option_clones _ _ (λ w r. r) (λ v r. r) (λ v w r. r) _ _ c.in_ok-payloads.ensures.cases.0 in
    rw (c.with_room.ensures.slots, c.in_ok-versions.ensures.items, c.deref.ensures.value, c.in_ok-numbers.ensures.items, c.deref-2.ensures.value, ← c.self.view_is)
    (zip-clones g.P.Clone.is_clone m.versions.items (uses_of m.versions.items m.numbers.items) m.payloads.items c.in_ok-payloads.payloads.items xs)

pub returns-clause-room : goal.returns-clause-room
returns-clause-room g c =
    let m = c.self.inside in
    let vs : c.in_ok-versions.versions.items ≡ m.versions.items = c.in_ok-versions.ensures.items ∙ c.deref.ensures.value in
    let ns : c.in_ok-numbers.numbers.items ≡ m.numbers.items = c.in_ok-numbers.ensures.items ∙ c.deref-2.ensures.value in
    let xs = c.in_ok-payloads.payloads.items in
    let same : length xs ≡ length m.payloads.items = zip_length _ m.payloads.items xs c.in_ok-payloads.ensures.cases.0 in
    let numbers = c.self.invariant.numbers_length in
    let payloads = c.self.invariant.payloads_length in
    let few = c.requires.few in
    let len = ap (λ l. length l.slots) c.self.view_is in
    let uses = uses-length m.versions.items m.numbers.items numbers in
    let before = zip-length m.versions.items (uses_of m.versions.items m.numbers.items) m.payloads.items uses payloads in
    let after = zip-length m.versions.items (uses_of m.versions.items m.numbers.items) xs uses (same ∙ payloads) in
    rw (c.with_room.ensures.slots, vs, ns) (c.with_room.ensures.room _ (omega arith)
    (omega (arith, ap length vs, c.in_ok-versions.versions.ok.0, c.in_ok-versions.versions.ok.1))
    (omega (arith, ap length ns, c.in_ok-numbers.numbers.ok.0, c.in_ok-numbers.numbers.ok.1))
    (omega (arith, c.in_ok-payloads.payloads.ok.0, c.in_ok-payloads.payloads.ok.1)))
