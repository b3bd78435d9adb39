use Rattle.slotmap_list.proofs.Common.{is_err, [], length, length-append, ap, sym, subst, ◌∙◌, arith, rules, KeepsSpent, memory, used, vacant_less, Adds, refused}
use Rattle.std.proofs.Common.{◌≡◌, ◌≤◌, ◌+◌, ◌∷◌}
use Rattle.slotmap_list.proofs.Adding.{Adds-push, no_room, refused_is, full_after, used_kept}
use Rattle.std.specs.FinMap as map
use Rattle.slotmap_list.proofs.StableList.extend.Goals as goal

pub loop-value-preserved : goal.loop-value-preserved
loop-value-preserved g c =
    let at = c.loop-value in
    let more = Adds-push c.args.self.now.elements at.self.elements c.push_back.new.self.elements at.yielded (g.K.Key.data_of c.in_default.field-0)
    c.in-Some.value at.invariant.2.adds c.in_default.ensures.ok in
    let long = ap length c.in_default.ensures.ok ∙ length-append at.self.elements ((g.K.Key.data_of c.in_default.field-0, c.in-Some.value) ∷ []) in
    let slots : used c.push_back.new.self.cursors + length c.args.self.now.elements ≡ used c.args.self.now.cursors + length c.push_back.new.self.elements =
    (omega (arith, at.invariant.2.used, long, c.in_default.ensures.used)) in
    let room : c.args.self.now.cursors.room + length c.args.self.now.elements ≤ c.push_back.new.self.cursors.room + length c.push_back.new.self.elements =
    omega (arith, long, at.invariant.2.room, c.in_default.ensures.cursors.room) in
    let vacant : map.len c.args.self.now.cursors.next + length c.args.self.now.elements ≤ map.len c.push_back.new.self.cursors.next + length c.push_back.new.self.elements =
    omega (arith, long, at.invariant.2.vacant, vacant_less at.self.cursors c.push_back.new.self.cursors (g.K.Key.data_of c.in_default.field-0) tt c.in_default.ensures.cursors) in
    let in_place : length c.push_back.new.self.elements ≤ c.args.self.now.cursors.room + length c.args.self.now.elements
    → memory c.push_back.new.self ≡ memory c.args.self.now = λ fits.
    c.push_back.ensures.in_place (omega (arith, long, at.invariant.2.room)) ∙ at.invariant.2.in_place (omega (arith, long)) in
    let capacity : c.args.self.now.cursors.capacity ≤ c.push_back.new.self.cursors.capacity = omega (arith, c.push_back.ensures.capacity, at.invariant.2.capacity) in
    let gone : KeepsSpent c.args.self.now.cursors c.push_back.new.self.cursors = λ k spent. c.push_back.ensures.gone k (at.invariant.2.gone k spent) in
    search rules

pub returns-in-Err : goal.returns-in-Err
returns-in-Err g c =
    let at = c.loop-value in
    let back : refused c.in-Err.error ≡ c.in-Some.value = refused_is at.self.cursors c.in-Some.value c.in-Err.error c.in-Err.ensures.err in
    let failed = ap is_err c.in-Err.is in
    let same = ap length c.in-Err.ensures.unchanged in
    record {
      extends = (
        c.into_iter-value-iterator.result,
        c.into_iter-value-iterator.ensures.into_iter_gives,
        record {
          values = at.yielded;
          adds = subst (λ es. Adds c.args.self.now.elements at.yielded es) (sym c.in-Err.ensures.unchanged) at.invariant.2.adds;
          ended = (c.next.new.self, rw back (search rules));
        },
      );
      used = omega (arith, c.loop-value.invariant.2.used, same, used_kept c.loop-value.self.cursors c.push_back.new.self.cursors c.in-Err.ensures.keeps);
      err = full_after c.loop-value.self.cursors _ c.in-Some.value c.in-Err.error c.in-Err.ensures.err c.in-Err.ensures.keeps;
      room = omega (arith, no_room c.loop-value.self.cursors.room c.push_back.result failed c.push_back.ensures.room, c.loop-value.invariant.2.room, same);
      reuses = omega (arith, no_room (map.len c.loop-value.self.cursors.next) c.push_back.result failed c.push_back.ensures.reuses, c.loop-value.invariant.2.vacant, same);
      in_place = search rules;
      room_left = omega (arith, c.loop-value.invariant.2.room, same, c.in-Err.ensures.keeps.room);
      capacity = omega (arith, c.push_back.ensures.capacity, c.loop-value.invariant.2.capacity);
      gone = λ k spent. c.push_back.ensures.gone k (c.loop-value.invariant.2.gone k spent);
    }
