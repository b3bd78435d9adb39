use Rattle.std.proofs.Common.{◌∙◌, ℕ, ap, arith}
use Rattle.std.specs.FinMap as map
use Rattle.slotmap.proofs.Callers.{new_first, room_again}
use Rattle.slotmap.specs.Words.{key_cmp}
use Rattle.slotmap_examples.proofs.reuse.fill_twice.Goals as goal

pub fill-requires-2 : goal.fill-requires-2
fill-requires-2 g c =
    let made = c.in_ok-store.ensures in
    let first = new_first _ made.starts in
    let again = room_again _ _ c.clear.ensures.leaves c.clear.ensures.empty (c.fill.ensures.none_last first.none_vacant first.none_last) in
    record { room = omega (arith, again, c.fill.ensures.as_many) }

pub returns : goal.returns
returns g c =
    let none = ap map.len c.clear.ensures.empty ∙ map.len-empty key_cmp ℕ in
    record { as_many = omega (arith, c.fill-2.ensures.as_many, none) }
