use Rattle.std.proofs.Common.{◌≡◌, ◌≢◌}
use Rattle.slotmap_slots.proofs.Common.{option_map, Some, ap, sym, ◌∙◌, arith, version_at, version_before, detached-past, detached-stale, detached-at, settled_valid}
use Rattle.std.proofs.lemmas.Option.{slice_get_past}
use Rattle.slotmap_slots.proofs.slots.Slots.is_detached.Goals.{After-version-2}
use Rattle.slotmap_slots.proofs.slots.Slots.is_detached.Goals as goal

pub returns-then-index-len-clause-value : goal.returns-then-index-len-clause-value
returns-then-index-len-clause-value g c =
    let past = slice_get_past (g.L.Layout.slots c.self.inside.layout) c.args.key.index (omega (arith, c.if-index-len.true, c.len.ensures, c.idx-index.ensures.value)) in
    rw (← c.self.view_is) (sym (detached-past c.self.invariant.sound c.args.key (ap (option_map (λ s. s.version)) past)))

pub returns-then-index-len-clause-valid : goal.returns-then-index-len-clause-valid
returns-then-index-len-clause-valid g c = settled_valid c.self.invariant c.self.view_is

-- the version that is read lies at the key's index
found : (g : _) (c : After-version-2 g) → version_at (g.L.Layout.slots c.self.inside.layout) c.args.key.index ≡ Some c.version.result
found g c = ap (version_at (g.L.Layout.slots c.self.inside.layout)) (sym c.idx-index.ensures.value) ∙ c.version.ensures

pub returns-then-version-clause-value : goal.returns-then-version-clause-value
returns-then-version-clause-value g c =
    let other : version_before c.version.result ≢ c.args.key.version = λ same. omega (arith, same, c.if-version.true, c.version-2.ensures.value, c.version.type_inv, c.version-2.type_inv) in
    rw (← c.self.view_is) (sym (detached-stale c.self.invariant.sound c.args.key _ (found g (goal.at.returns-then-version-clause-value g c).After-version-2) other))

pub returns-then-version-clause-valid : goal.returns-then-version-clause-valid
returns-then-version-clause-valid g c = settled_valid c.self.invariant c.self.view_is

pub returns-clause-value : goal.returns-clause-value
returns-clause-value g c =
    let same : version_before c.version.result ≡ c.args.key.version = omega (arith, c.if-version.false, c.version-2.ensures.value, c.version.type_inv, c.version-2.type_inv) in
    rw (← c.self.view_is) (detached-at c.self.invariant.sound c.args.key _ (found g (goal.at.returns-clause-value g c).After-version-2) same c.is_detached.result
    (rw c.idx-index.ensures.value at c.is_detached.ensures))

pub returns-clause-valid : goal.returns-clause-valid
returns-clause-valid g c = settled_valid c.self.invariant c.self.view_is
