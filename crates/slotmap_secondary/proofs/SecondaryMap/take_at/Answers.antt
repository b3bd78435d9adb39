use Rattle.std.proofs.Common.{◌≡◌}
use Rattle.slotmap_secondary.proofs.Common.{set-get_or, length-set, slice_get, ap, subst, ◌∙◌, Vacant, Occupied, IsSound-clear, content-clear, some_left, there_read, stands, key-here}
use Rattle.slotmap_secondary.proofs.Common.{Key, get, set, Some, refl, sym, arith, valid}
use Rattle.slotmap_secondary.proofs.SecondaryMap.take_at.Goals.{In-Occupied}
use Rattle.slotmap_secondary.proofs.SecondaryMap.take_at.Goals as goal

-- nothing is there, and a vacant slot is written over another
vacant_there : (g : _) (c : goal.In-Vacant g) → slice_get c.self.inside.slots.items c.args.index ≡ Some (Vacant c.in-Vacant.field-0)
vacant_there g c = grind (arith, there_read c.self.inside.slots.items c.args.index)

same_slots : (g : _) (c : goal.In-Vacant g) → set c.self.inside.slots.items c.args.index c.replace.new.dest ≡ c.self.inside.slots.items
same_slots g c =
    let slots = c.self.inside.slots.items in
    let null = c.self.invariant.each c.args.index _ (vacant_there g c) in
    let read = c.replace.ensures.after ∙ ap Vacant (sym null) ∙ sym c.in-Vacant.is ∙ c.replace.ensures.value ∙ c.index_mut.ensures.value in
    ap (set slots c.args.index) read ∙ set-get_or slots _ _

pub invariant_of-self : goal.invariant_of-self
invariant_of-self g c = rw (same_slots g c) c.self.invariant

pub returns-in-Vacant-clause-takes : goal.returns-in-Vacant-clause-takes
returns-in-Vacant-clause-takes g c = (stands _ _ (ap (λ m. m.pairs) c.self.view_is) _ _ (vacant_there g c), rw (same_slots g c, ← c.self.view_is) refl)

pub returns-in-Vacant-clause-valid : goal.returns-in-Vacant-clause-valid
returns-in-Vacant-clause-valid g c = rw (same_slots g c) (valid c.self.inside.slots.items _ c.self.invariant _ (omega (arith, c.self.inside.slots.ok.0, c.self.inside.slots.ok.1)))

-- a key is there
key_there : (g : _) (c : In-Occupied g) → slice_get c.self.inside.slots.items c.args.index ≡ Some (Occupied c.in-Occupied.version c.in-Occupied.value)
key_there g c = grind (arith, there_read c.self.inside.slots.items c.args.index)

pub overflow_sub-self : goal.overflow_sub-self
overflow_sub-self g c = some_left _ _ c.self.invariant (record { index = c.args.index; version = c.in-Occupied.version }) _ (key_there g (goal.at.overflow_sub-self g c).In-Occupied)

pub invariant_of-self-in-Occupied : goal.invariant_of-self-in-Occupied
invariant_of-self-in-Occupied g c =
    let there = key_there g (goal.at.invariant_of-self-in-Occupied g c).In-Occupied in
    rw (c.replace.ensures.after) (IsSound-clear _ _ c.self.invariant (record { index = c.args.index; version = c.in-Occupied.version }) _ there)

pub exact-requires : goal.exact-requires
exact-requires g c = (key-here _ _ (ap (λ m. m.pairs) c.self.view_is) c.args.index _ c.self.invariant _ _ (key_there g (goal.at.exact-requires g c).In-Occupied)).0

pub returns-in-Occupied-clause-takes : goal.returns-in-Occupied-clause-takes
returns-in-Occupied-clause-takes g c =
    let there = key_there g (goal.at.returns-in-Occupied-clause-takes g c).In-Occupied in
    let k : Key = record { index = c.args.index; version = c.in-Occupied.version } in
    let key = key-here _ _ (ap (λ m. m.pairs) c.self.view_is) c.args.index _ c.self.invariant _ _ there in
    let is : g.K.Key.data_of c.from.result ≡ k =
    ap g.K.Key.data_of (g.met.K.Key.from_gives_key _ _ c.from.ensures) ∙ g.met.K.Key.from_data _ (rw c.exact.ensures key.0) ∙ c.exact.ensures in (
      ap (λ q. q.index) is,
      (
        subst (λ q. get c.args.self.now.pairs q ≡ Some c.in-Occupied.value) (sym is) key.1.0,
        rw (c.replace.ensures.after, is, ← c.self.view_is) (content-clear c.self.inside.slots.items _ k _ there),
      ),
    )

pub returns-in-Occupied-clause-valid : goal.returns-in-Occupied-clause-valid
returns-in-Occupied-clause-valid g c =
    valid _ _ (invariant_of-self-in-Occupied g c) _ (omega (arith, length-set c.self.inside.slots.items c.args.index c.replace.new.dest, c.self.inside.slots.ok.0, c.self.inside.slots.ok.1))
