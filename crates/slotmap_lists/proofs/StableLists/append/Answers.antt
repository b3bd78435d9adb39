use Rattle.slotmap_lists.proofs.Common.{true, length, subst, arith, some_is, value_under}
use Rattle.std.specs.Prelude.{if◌then◌else◌}
use Rattle.std.proofs.Common.{◌≡◌, ◌<◌}
use Rattle.slotmap_lists.proofs.Callers.{can_move}
use Rattle.slotmap_lists.proofs.Clearing.{joining_step}
use Rattle.slotmap_lists.specs.Sequences.{moved_to_back_of}
use Rattle.slotmap_lists.proofs.StableLists.append.Goals as goal

pub loop-cursor-preserved : goal.loop-cursor-preserved
loop-cursor-preserved g c =
    let s = c.loop-cursor.self in
    let k = g.K.Key.data_of c.in-Some.cursor in
    let v = some_is (value_under k s.lists) c.in-Some.ensures.stands in
    let there : c.args.list < length s.lists = (omega (arith, c.loop-cursor.invariant.as_many, c.lists.ensures.value, c.if-list-lists.false)) in
    let can = can_move k c.args.list s.lists c.in-Some.ensures.stands there in
    let which = c.move_to_back.ensures.which in
    let yes : c.move_to_back.result ≡ true = (cc) in
    let is = subst (λ b. c.move_to_back.new.self ≡ record s { lists = if b then moved_to_back_of k c.args.list s.lists else s.lists }) yes c.move_to_back.ensures.moved in
    joining_step s c.len.ensures.once c.args.list c.args.other c.if-list-other.false there k v.0 c.in-Some.ensures.value v.1 c.move_to_back.new.self is
    (c.move_to_back.ensures.others yes) c.args.self.now c.loop-cursor.invariant c.move_to_back.ensures.values
