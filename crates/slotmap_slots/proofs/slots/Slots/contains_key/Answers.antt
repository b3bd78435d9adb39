use Rattle.slotmap_slots.proofs.Common.{option_map, ap, sym, ◌∙◌, arith, slice_get_past, version_at, contains-version, contains-past, settled_valid}
use Rattle.slotmap_slots.proofs.slots.Slots.contains_key.Goals as goal

pub returns-then-index-len-clause-value : goal.returns-then-index-len-clause-value
returns-then-index-len-clause-value g c =
    let slots = g.L.Layout.slots c.self.inside.layout in
    let past = ap (option_map (λ s. s.version)) (slice_get_past slots c.args.key.index (omega (arith, c.if-index-len.true, c.len.ensures, c.idx-index.ensures.value))) in
    rw (← c.self.view_is) (sym (contains-past c.self.invariant.sound c.args.key past))

pub returns-then-index-len-clause-valid : goal.returns-then-index-len-clause-valid
returns-then-index-len-clause-valid g c = settled_valid c.self.invariant c.self.view_is

pub returns-clause-value : goal.returns-clause-value
returns-clause-value g c =
    let read = ap (version_at (g.L.Layout.slots c.self.inside.layout)) (sym c.idx-index.ensures.value) ∙ c.version.ensures in
    rw (← c.self.view_is, c.version-2.ensures.value) (contains-version c.self.invariant.sound c.args.key _ c.version-2.ensures.valid read)

pub returns-clause-valid : goal.returns-clause-valid
returns-clause-valid g c = settled_valid c.self.invariant c.self.view_is
