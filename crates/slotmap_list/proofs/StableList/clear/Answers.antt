use Rattle.std.proofs.Common.{◌≡◌, [], length, ap, arith, rules}
use Rattle.slotmap_list.proofs.Draining.{emptied, emptied_after}
use Rattle.slotmap_list.proofs.StableList.clear.Goals as goal

pub loop-preserved : goal.loop-preserved
loop-preserved g c end empties =
    c.loop.invariant end (emptied_after g.K.Key.data_of _ _ c.pop_front.result c.pop_front.ensures.front c.pop_front.ensures.for_good c.pop_front.ensures.gone
    c.pop_front.ensures.leaves c.pop_front.ensures.capacity end empties)

pub returns : goal.returns
returns g c =
    let s = c.pop_front.new.self in
    let none : s.elements ≡ [] = (search rules) in
    let last = emptied_after g.K.Key.data_of _ _ c.pop_front.result c.pop_front.ensures.front c.pop_front.ensures.for_good c.pop_front.ensures.gone
    c.pop_front.ensures.leaves c.pop_front.ensures.capacity in
    let all = c.loop.invariant s (last s (emptied s none (omega (arith, c.len.ensures.live, c.len.ensures.value, ap length none)))) in
    record { empty = all.empty; none_live = all.none_live; for_good = all.for_good; gone = all.gone; leaves = all.leaves; capacity = all.capacity }
