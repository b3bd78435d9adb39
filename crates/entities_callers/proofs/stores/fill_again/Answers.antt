use Rattle.std.proofs.Common.{◌≡◌, ◌+◌, ◌≤◌, ℕ, Result, Ok, Err, IsOk, IfOk, None, ap, ◌∙◌, arith}
use Rattle.std.specs.FinMap as map
use Rattle.slotmap.specs.Words.{Key, key_cmp, Content, Inserts}
use Rattle.slotmap.proofs.Callers.{keys_total, room_again}
use Rattle.entities_callers.proofs.stores.fill_again.Goals as goal

-- a call that succeeds adds one entity, and takes up room for one at most
one_more : {E : Type 0} (old new : Content ℕ) (result : Result Key E) (entity : ℕ) → IsOk result → IfOk result (λ k. Inserts old k entity new)
    → IfOk result (λ k. map.get old.live k ≡ None)
    → (map.len new.live ≡ map.len old.live + 1) × (old.room ≤ new.room + 1)
one_more old new (Ok k) entity ok adds fresh = (grind (arith, adds.live, map.len-insert keys_total old.live k entity, fresh), adds.room)
one_more old new (Err e) entity ok adds fresh = absurd (cc)

pub loop-init : goal.loop-init
loop-init g c =
    let room = room_again _ _ c.clear.ensures.leaves c.clear.ensures.removed c.requires.not_last in
    record {
      live = ap map.len c.clear.ensures.removed ∙ map.len-empty key_cmp ℕ;
      room = omega (arith, room, c.len-count.ensures.value);
      capacity = c.clear.ensures.capacity;
      within = omega arith;
      count = c.len-count.ensures.value;
    }

pub loop-preserved : goal.loop-preserved
loop-preserved g c =
    let i = c.loop.invariant in
    let s = c.spawn.ensures in
    let more = c.loop-test.true in
    let some = one_more _ _ c.spawn.result 1 (s.room (omega (arith, i.room, more))) s.adds s.fresh in
    record {
      live = omega (arith, some.0, i.live);
      room = omega (arith, i.room, some.1);
      capacity = s.in_place (omega (arith, i.room, more)) ∙ i.capacity;
      within = omega (arith, more);
      count = i.count;
    }
