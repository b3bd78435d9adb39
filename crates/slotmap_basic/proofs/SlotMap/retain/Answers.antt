use Rattle.slotmap_basic.proofs.Common.{IsContent, with_value, true, ◌∙◌, same_live, CallsAt-called, cursor_removed, cursor_written, Going-start, Going-may, Going-end, Going-kept, Going-dropped}
use Rattle.slotmap_basic.proofs.Common.{IsLive, arith}
use Rattle.slotmap_basic.proofs.SlotMap.retain.Goals.{After-cursor_from-cursor, After-f-stays}
use Rattle.slotmap_basic.proofs.SlotMap.retain.Goals as goal

well : (g : _) (c : After-cursor_from-cursor g) → IsContent true c.args.self.now
well g c = c.cursor_from-cursor.ensures.valid

pub loop-key-init : goal.loop-key-init
loop-key-init g c =
    let start = c.cursor_from-cursor.ensures in
    record {
      going = Going-start g.F.FnMut g.K.Key.data_of c.args.self.now c.args.f (well g (goal.at.loop-key-init g c).After-cursor_from-cursor)
          _ (λ q there. start.on q there (omega arith));
      cursor = start.cursor;
    }

pub f-stays-requires : goal.f-stays-requires
f-stays-requires g c = Going-may g.F.FnMut g.K.Key.data_of c.args.self.now c.args.f c.loop-key.invariant.going c.requires c.in-Some.key _ c.in-Some.ensures.live.1 c.get_unchecked_mut.ensures.value

-- the key is live until it is removed
still : (g : _) (c : After-f-stays g) → IsLive (with_value c.loop-key.self (g.K.Key.data_of c.in-Some.key) c.f-stays.new.arg3) (g.K.Key.data_of c.in-Some.key)
still g c = let key = g.K.Key.data_of c.in-Some.key in same_live c.loop-key.self key c.f-stays.new.arg3 c.in-Some.ensures.live.0 key ∙ c.in-Some.ensures.live.0

pub reject-requires : goal.reject-requires
reject-requires g c = still g (goal.at.reject-requires g c).After-f-stays

pub loop-key-preserved-then-not-stays : goal.loop-key-preserved-then-not-stays
loop-key-preserved-then-not-stays g c =
    let at = c.loop-key in
    let found = c.in-Some.ensures in
    let key = g.K.Key.data_of c.in-Some.key in
    let removes = c.reject.ensures.removes in
    let valid = c.reject.ensures.valid in
    let is_live = still g (goal.at.loop-key-preserved-then-not-stays g c).After-f-stays in
    let cursor = cursor_written at.self key c.f-stays.new.arg3 c.next_live.new.cursor found.live.0 c.next_live.ensures.cursor in
    record {
      going = rw found.on (Going-dropped g.F.FnMut g.K.Key.data_of c.args.self.now c.args.f at.invariant.going (well g (goal.at.loop-key-preserved-then-not-stays g c).After-cursor_from-cursor) _
          (CallsAt-called g.F.FnMut c.f-stays.ensures) found.live.1 found.first c.get_unchecked_mut.ensures.value c.if-not-stays.true c.reject.new.self removes valid.capacity valid.after);
      cursor = cursor_removed (with_value at.self key c.f-stays.new.arg3) c.reject.new.self c.next_live.new.cursor cursor valid.before key is_live (omega (arith, found.on)) removes;
    }

pub loop-key-preserved : goal.loop-key-preserved
loop-key-preserved g c =
    let at = c.loop-key in
    let found = c.in-Some.ensures in
    let key = g.K.Key.data_of c.in-Some.key in
    record {
      going = rw found.on (Going-kept g.F.FnMut g.K.Key.data_of c.args.self.now c.args.f at.invariant.going
          (well g (goal.at.loop-key-preserved g c).After-cursor_from-cursor) _ (CallsAt-called g.F.FnMut c.f-stays.ensures)
          found.live.1 found.first c.get_unchecked_mut.ensures.value c.if-not-stays.false);
      cursor = cursor_written at.self key c.f-stays.new.arg3 c.next_live.new.cursor found.live.0 c.next_live.ensures.cursor;
    }

pub returns-clause-retained : goal.returns-clause-retained
returns-clause-retained g c = Going-end g.F.FnMut g.K.Key.data_of c.args.self.now c.args.f c.loop-key.invariant.going c.in_default.ensures.none
