use Rattle.std.specs.FinMap as map
use Rattle.slotmap_basic.proofs.Common.{◌∙◌, keys_total, exact_keys, in_after_remove, removed_places, NoneBelow-removed, none_live, get-remove_other, Swept-start, Swept-removed, cursor_removed}
use Rattle.slotmap_basic.proofs.Common.{true, refl, sym, ap, inl, arith, alone_at, Swept-to}
use Rattle.slotmap_basic.proofs.SlotMap.clear_from.Goals as goal

pub loop-key-init : goal.loop-key-init
loop-key-init g c = record {
  swept = Swept-start c.args.self.now _ c.cursor_from-cursor.ensures.valid;
  stay = λ k below. refl;
  cursor = c.cursor_from-cursor.ensures.cursor;
  from = c.cursor_from-cursor.ensures.from;
  above = λ none q there. c.cursor_from-cursor.ensures.on q there (none q there);
}

pub loop-key-preserved : goal.loop-key-preserved
loop-key-preserved g c =
    let at = c.loop-key in
    let key = g.K.Key.data_of c.in-Some.key in
    let found = c.in-Some.ensures.live in
    let first = c.in-Some.ensures.first in
    let swept = Swept-to c.args.self.now at.self at.cursor.index key.index at.invariant.swept found.1 in
    let alone = alone_at at.self swept.well key key.index found.0 refl in
    let removes = c.take_live.ensures.removes in
    let valid = c.take_live.ensures.valid in
    let after = Swept-removed c.args.self.now at.self c.take_live.new.self key.index key swept found.0 refl removes valid.capacity valid.after in
    record {
      swept = rw c.in-Some.ensures.on after;
      stay = λ k below. rw removes.live (get-remove_other at.self.live key k (λ same. omega (arith, ap (λ q. q.index) same, at.invariant.from key found.0 found.1)) ∙ at.invariant.stay k below);
      cursor = cursor_removed at.self c.take_live.new.self c.next_live.new.cursor c.next_live.ensures.cursor swept.well key found.0 (omega (arith, c.in-Some.ensures.on)) removes;
      from = λ k is_live from.
          at.invariant.from k (in_after_remove keys_total exact_keys at.self.live key k (ap (λ m. map.contains_key m k) (sym removes.live) ∙ is_live)).1
          (omega (arith, from, c.in-Some.ensures.on, found.1));
      above = λ none. rw (c.in-Some.ensures.on, removes.live) (NoneBelow-removed at.self.live key.index key alone (λ q there. first q there (at.invariant.above none q there)));
    }

pub loop-key-smaller : goal.loop-key-smaller
loop-key-smaller g c =
    let at = c.loop-key in
    let key = g.K.Key.data_of c.in-Some.key in
    let found = c.in-Some.ensures.live in
    let within = c.next_live.ensures.valid.within key (inl (inl found.0)) in
    let same = removed_places true at.self c.take_live.new.self c.next_live.ensures.valid key found.0 c.take_live.ensures.removes in
    rw c.in-Some.ensures.on (omega (arith, within.1, found.1))

pub returns-clause-empty : goal.returns-clause-empty
returns-clause-empty g c = λ none. let at = c.loop-key in none_live at.self.live (λ q there. absurd (omega (arith, c.in_default.ensures.none q there, at.invariant.above none q there)))
