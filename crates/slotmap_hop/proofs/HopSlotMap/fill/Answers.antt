use Rattle.std.proofs.Common.{◌≡◌, ◌+◌}
use Rattle.slotmap_hop.proofs.Common.{common_steps, ◌∙◌, all_links, next_place, zero_leads, first_leads, read_back, at_end, well_formed, back_within, back_key, offered_back}
use Rattle.slotmap_hop.proofs.Common.{key, ap, sym, arith, AtEnd, Filled, filled, valid}
use Rattle.slotmap_hop.proofs.Growth.{some_offered, sound-pushed, blocks-pushed, inserts-pushed}
use Rattle.slotmap_hop.proofs.HopSlotMap.fill.Goals.{Then-self-eq0, After-back_of-back, After-fill_back}
use Rattle.slotmap_hop.proofs.HopSlotMap.fill.Goals as goal

-- no slot is vacant
end : (g : _) (c : Then-self-eq0 g) → AtEnd c.self.inside c.self.view_is c.self.invariant
end g c = at_end c.self.inside c.self.view_is c.self.invariant c.if-self-eq0.true c.requires

pub push_reserved-requires : goal.push_reserved-requires
push_reserved-requires g c = omega (arith, (end g (goal.at.push_reserved-requires g c).Then-self-eq0).holds, c.self.inside.slots.ok.0)

pub exact-key-requires : goal.exact-key-requires
exact-key-requires g c = rw (c.len.ensures, c.self.inside.slots.ok.0) (end g (goal.at.exact-key-requires g c).Then-self-eq0).is_key

pub invariant_of-self : goal.invariant_of-self
invariant_of-self g c = let end = end g (goal.at.invariant_of-self g c).Then-self-eq0 in rw c.push_reserved.ensures.items (sound-pushed _ _ _ c.self.invariant c.args.value end.fits end.none)

pub returns-then-self-eq0 : goal.returns-then-self-eq0
returns-then-self-eq0 g c =
    let end = end g (goal.at.returns-then-self-eq0 g c).Then-self-eq0 in
    let made = c.push_reserved.new.self in
    record {
      value = c.exact-key.ensures ∙ ap (λ n. key n 1) (c.len.ensures ∙ c.self.inside.slots.ok.0) ∙ sym end.offers;
      inserts =
          rw (← c.self.view_is, c.push_reserved.ensures.items, c.push_reserved.ensures.capacity) (inserts-pushed _ _ _ c.self.invariant _ _ c.args.value end.none end.below (omega arith));
      blocks = rw (← c.self.view_is, c.push_reserved.ensures.items) (blocks-pushed _ _ _ c.self.invariant c.args.value end.fits end.none).1;
      valid = record {
        before = well_formed c.self.inside c.self.view_is c.self.invariant;
        after = valid _ _ _ (invariant_of-self g c) _ (omega (arith, made.ok.0, made.ok.1));
        capacity = rw (← c.self.view_is) (omega (arith, c.push_reserved.ensures.capacity));
      };
    }

pub next_of-front-requires : goal.next_of-front-requires
next_of-front-requires g c = rw c.as_slice.ensures.value (zero_leads c.self.invariant.linked)

pub back_of-back-requires : goal.back_of-back-requires
back_of-back-requires g c = rw (c.as_slice-2.ensures.value, c.next_of-front.ensures, c.as_slice.ensures.value) (first_leads c.self.invariant.linked)

-- the place that is filled
back : (g : _) (c : After-back_of-back g) → c.back_of-back.result ≡ next_place c.self.inside.slots.items
back g c = read_back _ _ _ (ap all_links c.as_slice.ensures.value) (ap all_links c.as_slice-2.ensures.value) c.next_of-front.ensures c.back_of-back.ensures

pub index-requires : goal.index-requires
index-requires g c = grind (arith, common_steps, back_within)

pub exact-requires : goal.exact-requires
exact-requires g c = rw c.version-version.ensures (back_key c.self.inside c.self.view_is c.self.invariant c.if-self-eq0.false (back g (goal.at.exact-requires g c).After-back_of-back) c.index.ensures)

pub overflow_add-version : goal.overflow_add-version
overflow_add-version g c =
    let is_key = back_key c.self.inside c.self.view_is c.self.invariant c.if-self-eq0.false (back g (goal.at.overflow_add-version g c).After-back_of-back) c.index.ensures in
    omega (arith, is_key.version_fits, c.version-version.ensures)

pub fill_back-requires-clause-positive : goal.fill_back-requires-clause-positive
fill_back-requires-clause-positive g c = omega (arith, back g (goal.at.fill_back-requires-clause-positive g c).After-back_of-back, some_offered _ _ _ c.self.invariant c.if-self-eq0.false)

filled_back : (g : _) (c : After-fill_back g) (is : c.back_of-back.result ≡ next_place c.self.inside.slots.items)
    → Filled c.self.inside c.self.view_is c.self.invariant c.if-self-eq0.false is c.index.ensures c.args.value c.fill_back.new.slots
filled_back g c is =
    filled c.self.inside c.self.view_is c.self.invariant c.if-self-eq0.false is c.index.ensures c.args.value c.as_mut_slice.result.now c.fill_back.new.slots
    c.as_mut_slice.ensures.value c.requires c.fill_back.ensures.list (rw c.version-version.ensures at c.fill_back.ensures.places)

pub invariant_of-self-2 : goal.invariant_of-self-2
invariant_of-self-2 g c = let at = goal.at.invariant_of-self-2 g c in (filled_back g at.After-fill_back (back g at.After-back_of-back)).sound_after

pub returns-clause-value : goal.returns-clause-value
returns-clause-value g c =
    c.exact.ensures ∙ ap (λ v. key c.back_of-back.result (v + 1)) c.version-version.ensures
    ∙ sym (offered_back c.self.inside c.self.view_is c.self.invariant c.if-self-eq0.false (back g (goal.at.returns-clause-value g c).After-back_of-back) c.index.ensures)

pub returns-clause-inserts : goal.returns-clause-inserts
returns-clause-inserts g c = let at = goal.at.returns-clause-inserts g c in (filled_back g at.After-fill_back (back g at.After-back_of-back)).inserts

pub returns-clause-valid : goal.returns-clause-valid
returns-clause-valid g c = let at = goal.at.returns-clause-valid g c in (filled_back g at.After-fill_back (back g at.After-back_of-back)).valid

pub overflow_cast-len : goal.overflow_cast-len
overflow_cast-len g c = grind (arith, common_steps)

pub returns-clause-blocks : goal.returns-clause-blocks
returns-clause-blocks g c = grind (arith, common_steps)
