use Rattle.std.proofs.Common.{◌∷◌, ◌++◌}
use Rattle.slotmap_basic.proofs.Common.{map-append, none_live, entries_none, Swept-start, Swept-removed, first_entry, above_next, ◌∙◌, append_assoc, append-nil, arith, cursor_removed, list_map}
use Rattle.slotmap_basic.proofs.Common.{Swept-to, [], length, refl, sym, ap}
use Rattle.std.specs.FinMap as map
use Rattle.slotmap_basic.proofs.SlotMap.drain_into.Goals as goal

pub loop-key-init : goal.loop-key-init
loop-key-init g c = record {
  swept = Swept-start c.args.self.now _ c.len.ensures.valid;
  cursor = c.cursor_from-cursor.ensures.cursor;
  above = λ q there. c.cursor_from-cursor.ensures.on q there (omega arith);
  pairs = [];
  pushed = c.reserve.ensures.items ∙ sym (append-nil c.args.out.now.items);
  listed = refl;
  room = omega (arith, map.len-entries c.args.self.now.live, c.len.ensures.value, c.in_ok-reserve.ensures.ok);
}

pub push_reserved-requires : goal.push_reserved-requires
push_reserved-requires g c =
    let at = c.loop-key in
    let next = first_entry at.self at.invariant.swept.well at.cursor.index
    (g.K.Key.data_of c.in-Some.key) c.in-Some.ensures.first c.take_live-value.result at.invariant.above c.take_live-value.ensures.value in
    omega (arith, at.invariant.room, ap length next)

pub loop-key-preserved : goal.loop-key-preserved
loop-key-preserved g c =
    let at = c.loop-key in
    let data_of = g.K.Key.data_of in
    let key = data_of c.in-Some.key in
    let value = c.take_live-value.result in
    let found = c.in-Some.ensures.live in
    let removes = c.take_live-value.ensures.removes in
    let valid = c.take_live-value.ensures.valid in
    let next = first_entry at.self at.invariant.swept.well at.cursor.index key c.in-Some.ensures.first value at.invariant.above c.take_live-value.ensures.value
    ∙ ap (λ m. (key, value) ∷ map.entries m) (sym removes.live) in
    record {
      swept = rw c.in-Some.ensures.on (Swept-removed c.args.self.now at.self c.take_live-value.new.self key.index key
          (Swept-to c.args.self.now at.self at.cursor.index key.index at.invariant.swept found.1) found.0 refl removes valid.capacity valid.after);
      cursor = cursor_removed at.self c.take_live-value.new.self c.next_live.new.cursor c.next_live.ensures.cursor at.invariant.swept.well key found.0 (omega (arith, c.in-Some.ensures.on)) removes;
      above = rw (c.in-Some.ensures.on, removes.live) (above_next at.self at.invariant.swept.well at.cursor.index key c.in-Some.ensures.first found.0 at.invariant.above);
      pairs = at.invariant.pairs ++ (c.in-Some.key, value) ∷ [];
      pushed = c.push_reserved.ensures.items ∙ ap (λ xs. xs ++ (c.in-Some.key, value) ∷ []) at.invariant.pushed
          ∙ append_assoc c.args.out.now.items at.invariant.pairs ((c.in-Some.key, value) ∷ []);
      listed = simp (map-append, append_assoc) (at.invariant.listed ∙ ap (λ es. list_map (λ p. (data_of p.0, p.1)) at.invariant.pairs ++ es) next);
      room = omega (arith, at.invariant.room, ap length next, c.push_reserved.ensures.len, c.push_reserved.ensures.capacity);
    }

pub returns-clause-empty : goal.returns-clause-empty
returns-clause-empty g c = let at = c.loop-key in none_live at.self.live (λ q there. absurd (omega (arith, c.in_default.ensures.none q there, at.invariant.above q there)))

pub returns-clause-ok : goal.returns-clause-ok
returns-clause-ok g c =
    let at = c.loop-key in
    let entries = list_map (λ p. (g.K.Key.data_of p.0, p.1)) at.invariant.pairs in
    let none = ap (λ m. map.entries m) (returns-clause-empty g c) ∙ entries_none in
    (at.invariant.pairs, at.invariant.pushed, sym (at.invariant.listed ∙ ap (λ es. entries ++ es) none ∙ append-nil entries))
