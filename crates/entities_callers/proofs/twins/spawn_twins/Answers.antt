use Rattle.std.proofs.Common.{◌≡◌, ◌<◌, ◌≤◌, ◌+◌, Result, Ok, Err, IsOk, arith}
use Rattle.slotmap.specs.Words.{places}
use Rattle.slotmap.proofs.Callers.{places_inserted}
use Rattle.entities_callers.proofs.twins.spawn_twins.Goals as goal

-- a call that fails didn't succeed
no_error : {A E P : Type 0} (result : Result A E) (error : E) → result ≡ Err error → IsOk result → P
no_error (Ok x) error is ok = absurd (cc)
no_error (Err x) error is ok = absurd (cc)

pub returns-in_err-spawn_with_both-2-clause-added : goal.returns-in_err-spawn_with_both-2-clause-added
returns-in_err-spawn_with_both-2-clause-added g c =
    let one = c.in_ok-spawn_with_both.ensures in
    let between = c.spawn_with_both.new.self.entities.content in
    let room : 0 < between.room = omega (arith, c.requires.entities, one.adds.room) in
    let low : between.offer.index ≤ places c.args.world.now.entities.content + 2 =
    omega (arith, places_inserted _ _ _ _ one.adds, c.spawn_with_both-2.ensures.offered room) in
    let ok : IsOk c.spawn_with_both-2.result =
    c.spawn_with_both-2.ensures.room room (one.less_first_room _ 1 (c.requires.first _ low)) (one.less_second_room _ 1 (c.requires.second _ low)) in
    no_error _ _ c.in_err-spawn_with_both-2.was ok
