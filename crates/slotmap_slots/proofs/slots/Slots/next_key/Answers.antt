use Rattle.std.proofs.Common.{◌<◌}
use Rattle.slotmap_slots.proofs.Common.{slice_get_within, key, length, ap, sym, ◌∙◌, arith, top, top_version, top_read, offer-new, offer-top, settled_fits}
use Rattle.slotmap_slots.proofs.slots.Slots.next_key.Goals as goal

pub version-requires : goal.version-requires
version-requires g c = slice_get_within _ _ _ (top c.self.invariant.sound c.if-self-eq0.false).there

pub overflow_add-version : goal.overflow_add-version
overflow_add-version g c = let t = top c.self.invariant.sound c.if-self-eq0.false in let read = top_read t c.version.ensures in omega (arith, (top_version t).0)

pub exact-requires-2 : goal.exact-requires-2
exact-requires-2 g c =
    let t = top c.self.invariant.sound c.if-self-eq0.false in
    let read = top_read t c.version.ensures in
    let good = top_version t in
    let within : c.self.inside.first_vacant < length (g.L.Layout.slots c.self.inside.layout) = slice_get_within _ _ _ t.there in
    let fits = settled_fits c.self.invariant c.self.view_is in
    record { index_fits = omega arith; version_fits = omega (arith, good.0); odd = omega (arith, good.1); one_null = λ last. absurd (omega arith) }

pub returns-then-self-eq0 : goal.returns-then-self-eq0
returns-then-self-eq0 g c = c.exact.ensures ∙ ap (λ n. key n 1) c.len.ensures ∙ sym (ap (λ m. m.offer) (sym c.self.view_is) ∙ offer-new c.self.invariant.sound c.if-self-eq0.true)

pub returns : goal.returns
returns g c = grind (arith, top_read (top c.self.invariant.sound c.if-self-eq0.false) c.version.ensures, offer-top (top c.self.invariant.sound c.if-self-eq0.false))
