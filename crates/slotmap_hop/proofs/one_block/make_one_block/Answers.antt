use Rattle.std.proofs.Common.{◌-◌, ◌<◌}
use Rattle.slotmap_hop.proofs.Common.{common_steps, ◌∙◌, HasBlockList, places_of, slots_fit, taken_slots, first_leads_on, back_vacant_still, alone_sound, named_is, named_sound}
use Rattle.slotmap_hop.proofs.Common.{length, set, Some, refl, sym, ap, subst, arith, Back}
use Rattle.slotmap_hop.proofs.one_block.make_one_block.Goals.{After-vacate_all}
use Rattle.slotmap_hop.proofs.one_block.make_one_block.Goals as goal

some : (g : _) (c : After-vacate_all g) → 0 < length c.args.slots.now
some g c = omega (arith, taken_slots _ _ _ c.requires.sound)

pub returns-then-back-eq0 : goal.returns-then-back-eq0
returns-then-back-eq0 g c = grind (arith, common_steps, some, alone_sound, slots_fit)

pub name_back-requires : goal.name_back-requires
name_back-requires g c = rw (c.vacate_all.ensures, first_leads_on c.args.slots.now (some g (goal.at.name_back-requires g c).After-vacate_all)) refl

pub name_front-requires : goal.name_front-requires
name_front-requires g c = rw c.name_back.ensures.links (back_vacant_still c.args.slots.now c.vacate_all.new.slots _ (some g (goal.at.name_front-requires g c).After-vacate_all) c.vacate_all.ensures)

pub returns : goal.returns
returns g c =
    let more : 1 < length c.args.slots.now = omega (arith, c.if-back-eq0.false, c.vacate_all.auto.slots) in
    let back = length c.vacate_all.new.slots - 1 in
    let are = c.name_front.ensures.links ∙ ap (λ es. set es back (Some (Back 0 0))) c.name_back.ensures.links
    ∙ named_is c.args.slots.now c.vacate_all.new.slots (some g (goal.at.returns g c).After-vacate_all) c.vacate_all.ensures in
    record {
      places = c.name_front.ensures.places ∙ c.name_back.ensures.places ∙ ap places_of c.vacate_all.ensures;
      list = subst HasBlockList (sym are) (named_sound c.args.slots.now (slots_fit _ _ _ c.requires.sound) more);
    }
