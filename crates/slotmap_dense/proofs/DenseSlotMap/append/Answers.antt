use Rattle.std.proofs.Common.{◌≡◌}
use Rattle.slotmap_dense.proofs.Common.{Inserts, ap, ◌∙◌, arith, stays-valid, Appended, appended}
use Rattle.std.proofs.lemmas.Grind.{common_steps}
use Rattle.slotmap_dense.proofs.MoveLemmas.{offer_key, new_not_live}
use Rattle.slotmap_dense.proofs.DenseSlotMap.append.Goals.{After-push_reserved-2}
use Rattle.slotmap_dense.proofs.DenseSlotMap.append.Goals as goal

pub fill-requires : goal.fill-requires
fill-requires g c = let room = rw (← c.self.view_is) at c.requires in omega arith

made : (g : _) (c : After-push_reserved-2 g) → Inserts c.self.inside.slots (g.K.Key.data_of c.from-key.result) c.len-position.result c.fill.new.self
made g c =
    let offer = offer_key c.self.inside.slots c.self.invariant.well c.fill.ensures.inserts.below_limit in
    let is : g.K.Key.data_of c.from-key.result ≡ c.self.inside.slots.offer = ap g.K.Key.data_of (g.met.K.Key.from_gives_key _ _ c.from-key.ensures)
    ∙ g.met.K.Key.from_data c.fill.result (rw c.fill.ensures.value offer) ∙ c.fill.ensures.value in
    rw is c.fill.ensures.inserts

grown : (g : _) (c : After-push_reserved-2 g) → Appended g.K.Key.data_of c.self.inside c.self.view_is c.self.invariant c.fill.new.self c.push_reserved.new.self
    c.push_reserved-2.new.self (g.K.Key.data_of c.from-key.result) c.args.value c.len-position.result
grown g c =
    appended _ c.self.inside c.self.view_is c.self.invariant c.fill.new.self c.push_reserved.new.self c.push_reserved-2.new.self c.from-key.result _ _
    (omega (arith, c.self.inside.keys.ok.0)) (new_not_live _ _ _ _ c.self.invariant.well (made g c)) c.push_reserved.ensures.items
    c.push_reserved-2.ensures.items (omega (arith, c.push_reserved.ensures.capacity)) (omega (arith, c.push_reserved-2.ensures.capacity))

pub invariant_of-self : goal.invariant_of-self
invariant_of-self g c = let at = (goal.at.invariant_of-self g c).After-push_reserved-2 in (grown g at).sound_after (made g at).live c.fill.ensures.valid.after

pub returns-clause-inserts : goal.returns-clause-inserts
returns-clause-inserts g c = let at = (goal.at.returns-clause-inserts g c).After-push_reserved-2 in (grown g at).inserts (made g at)

pub returns-clause-valid : goal.returns-clause-valid
returns-clause-valid g c =
    stays-valid _ c.self.inside c.self.view_is c.self.invariant c.fill.new.self c.push_reserved.new.self c.push_reserved-2.new.self (invariant_of-self g c)
    c.fill.ensures.valid.capacity c.push_reserved.ensures.capacity c.push_reserved-2.ensures.capacity

pub overflow_cast-position : goal.overflow_cast-position
overflow_cast-position g c = grind (arith, common_steps)

pub push_reserved-requires : goal.push_reserved-requires
push_reserved-requires g c = grind (arith, common_steps)

pub returns-clause-order : goal.returns-clause-order
returns-clause-order g c = grind (arith, common_steps)
