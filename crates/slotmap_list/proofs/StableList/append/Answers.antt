use Rattle.slotmap_list.proofs.Common.{[], length, ap, ◌∙◌, arith, rules, leaves_in_turn, memory, Inserts}
use Rattle.std.proofs.Common.{◌≡◌, ◌<◌, ◌++◌, ◌∷◌}
use Rattle.slotmap_list.proofs.Adding.{ok_so, moving_start, moving_step}
use Rattle.slotmap_bounded.proofs.Results.{on_ok}
use Rattle.std.specs.FinMap as map
use Rattle.slotmap_list.proofs.StableList.append.Goals as goal

pub loop-value-init : goal.loop-value-init
loop-value-init g c = let made = c.in_ok-reserve.ensures in let room = made.room in let long = c.len.ensures.value in
    moving_start _ _ _ made.elements (omega arith) made.keeps c.reserve.ensures.makes_room.capacity made.gone
    (λ fits. ap memory (c.reserve.ensures.in_place (omega arith)))

pub loop-value-preserved : goal.loop-value-preserved
loop-value-preserved g c =
    let m = c.loop-value.invariant in
    let popped = c.in-Some.ensures in
    let room : 0 < c.loop-value.self.cursors.room = (omega (arith, ap length popped.front, m.room)) in
    let ok = c.push_back.ensures.room room in
    let added = ok_so c.push_back.result (λ key. c.push_back.new.self.elements ≡ c.loop-value.self.elements ++ (g.K.Key.data_of key, c.in-Some.value) ∷ [])
    (λ key. Inserts c.loop-value.self.cursors (g.K.Key.data_of key) tt c.push_back.new.self.cursors) ok c.push_back.ensures.ok c.push_back.ensures.cursors in
    moving_step _ _ _ _ _ _ _ _ _ m popped.front popped.for_good popped.gone c.pop_front.ensures.leaves c.pop_front.ensures.capacity
    (c.push_back.ensures.in_place room) added.1 added.2 (on_ok c.push_back.result c.push_back.ensures.used ok) c.push_back.ensures.gone

pub returns-clause-gone_other : goal.returns-clause-gone_other
returns-clause-gone_other g c k spent = c.pop_front.ensures.gone k (c.loop-value.invariant.gone_other k spent)

pub returns-clause-leaves_other : goal.returns-clause-leaves_other
returns-clause-leaves_other g c = leaves_in_turn _ _ _ c.loop-value.invariant.leaves_other c.pop_front.ensures.leaves

pub returns-clause-capacity_other : goal.returns-clause-capacity_other
returns-clause-capacity_other g c = c.pop_front.ensures.capacity ∙ c.loop-value.invariant.capacity_other

pub returns-clause-none_live : goal.returns-clause-none_live
returns-clause-none_live g c = let none : c.pop_front.new.self.elements ≡ [] = (search rules) in
    map.empty_of_len c.pop_front.new.self.cursors.live (omega (arith, c.len-2.ensures.live, c.len-2.ensures.value, ap length none))
