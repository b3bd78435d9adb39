use Rattle.std.proofs.Common.{◌<◌}
use Rattle.slotmap_slots.proofs.Common.{slice_get_within, common_steps, none_free, top_read, top_next, top_version, offer-new, offer-top, settled_room, settled_fits, filled_new, filled_first}
use Rattle.slotmap_slots.proofs.Common.{length, is_some, ap, arith, top}
use Rattle.slotmap_slots.proofs.slots.Slots.fill.Goals as goal

pub push-requires-clause-room : goal.push-requires-clause-room
push-requires-clause-room g c = omega (arith, (settled_room c.self.invariant c.self.view_is c.requires).1, none_free c.self.invariant.sound c.if-self-eq0.true)

pub invariant_of-self : goal.invariant_of-self
invariant_of-self g c = rw (c.push.ensures.pushed, c.push.ensures.same_room) (filled_new c.self.invariant c.self.view_is c.if-self-eq0.true c.requires c.args.payload).settled

pub returns-then-self-eq0 : goal.returns-then-self-eq0
returns-then-self-eq0 g c = record {
  value = grind (arith, common_steps, offer-new c.self.invariant.sound c.if-self-eq0.true, c.exact.ensures, c.len-index.ensures, c.self.invariant.sound);
  inserts = rw (c.push.ensures.pushed, c.push.ensures.same_room) (filled_new c.self.invariant c.self.view_is c.if-self-eq0.true c.requires c.args.payload).becomes;
  valid = rw (c.push.ensures.pushed, c.push.ensures.same_room) (filled_new c.self.invariant c.self.view_is c.if-self-eq0.true c.requires c.args.payload).valid;
}

pub version-version-requires : goal.version-version-requires
version-version-requires g c = slice_get_within _ _ _ (top c.self.invariant.sound c.if-self-eq0.false).there

pub overflow_add-version : goal.overflow_add-version
overflow_add-version g c = let t = top c.self.invariant.sound c.if-self-eq0.false in omega (arith, (top_version t).0, top_read t c.version-version.ensures)

pub next_free-self-inside-requires : goal.next_free-self-inside-requires
next_free-self-inside-requires g c = ap is_some (top_next (top c.self.invariant.sound c.if-self-eq0.false))

pub put-requires-clause-odd : goal.put-requires-clause-odd
put-requires-clause-odd g c = let t = top c.self.invariant.sound c.if-self-eq0.false in omega (arith, (top_version t).1, top_read t c.version-version.ensures)

pub put-requires-clause-within : goal.put-requires-clause-within
put-requires-clause-within g c = slice_get_within _ _ _ (top c.self.invariant.sound c.if-self-eq0.false).there

pub exact-requires-2 : goal.exact-requires-2
exact-requires-2 g c =
    let t = top c.self.invariant.sound c.if-self-eq0.false in
    let read = top_read t c.version-version.ensures in
    let good = top_version t in
    let within : c.self.inside.first_vacant < length (g.L.Layout.slots c.self.inside.layout) = slice_get_within _ _ _ t.there in
    let fits = settled_fits c.self.invariant c.self.view_is in
    record { index_fits = omega arith; version_fits = omega (arith, good.0); odd = omega (arith, good.1); one_null = λ last. absurd (omega arith) }

pub invariant_of-self-2 : goal.invariant_of-self-2
invariant_of-self-2 g c =
    rw (c.put.ensures.put, c.put.ensures.same_room)
    (filled_first c.self.invariant c.self.view_is c.if-self-eq0.false c.requires _ _ c.version-version.ensures c.next_free-self-inside.ensures c.args.payload).settled

pub returns-clause-value : goal.returns-clause-value
returns-clause-value g c = grind (arith, top_read (top c.self.invariant.sound c.if-self-eq0.false) c.version-version.ensures, offer-top (top c.self.invariant.sound c.if-self-eq0.false))

pub returns-clause-inserts : goal.returns-clause-inserts
returns-clause-inserts g c =
    rw (c.put.ensures.put, c.put.ensures.same_room)
    (filled_first c.self.invariant c.self.view_is c.if-self-eq0.false c.requires _ _ c.version-version.ensures c.next_free-self-inside.ensures c.args.payload).becomes

pub returns-clause-valid : goal.returns-clause-valid
returns-clause-valid g c =
    rw (c.put.ensures.put, c.put.ensures.same_room)
    (filled_first c.self.invariant c.self.view_is c.if-self-eq0.false c.requires _ _ c.version-version.ensures c.next_free-self-inside.ensures c.args.payload).valid
