use Rattle.std.proofs.Common.{◌∷◌}
use Rattle.slotmap_basic.proofs.Common.{NoneBelow, keys_total, exact_keys, len_removed, none_live, Empties-first, first_entry, above_next, ◌∙◌, arith, cursor_removed, DrainCanStep, refl, sym}
use Rattle.slotmap_basic.proofs.Common.{ap}
use Rattle.std.specs.FinMap as map
use Rattle.slotmap_basic.proofs.drain.DrainIterator.next.Goals as goal

later : (g : _) (c : goal.After-take_live g) → NoneBelow c.take_live.new.self.live c.next_live.new.cursor.index
later g c =
    let now = c.args.self.now.map.now in
    let key = g.K.Key.data_of c.in_ok-key.key in
    let next = above_next now c.next_live.ensures.valid c.args.self.now.cursor.index key c.in_ok-key.ensures.first c.in_ok-key.ensures.live.0 c.requires.above in
    rw (c.in_ok-key.ensures.on, c.take_live.ensures.removes.live) next

-- the drain can go on
goes_on : (g : _) (c : goal.After-take_live g) → DrainCanStep {K = g.row.K.Denot} (record { map = record c.args.self.now.map { now = c.take_live.new.self }; cursor = c.next_live.new.cursor })
goes_on g c = record {
  above = later g c;
  cursor = cursor_removed c.args.self.now.map.now c.take_live.new.self c.next_live.new.cursor c.next_live.ensures.cursor c.next_live.ensures.valid (g.K.Key.data_of c.in_ok-key.key)
      c.in_ok-key.ensures.live.0 (omega (arith, c.in_ok-key.ensures.on)) c.take_live.ensures.removes;
}

pub returns-in_err-key-clause-steps : goal.returns-in_err-key-clause-steps
returns-in_err-key-clause-steps g c =
    let now = c.args.self.now.map.now in
    let none = none_live now.live (λ q there. absurd (omega (arith, c.in_err-key.ensures.none q there, c.requires.above q there))) in
    rw c.from_residual.ensures (
      (none, refl),
      (refl, λ end empties. empties),
      record { above = λ q there. absurd (omega (arith, c.in_err-key.ensures.none q there, c.requires.above q there)); cursor = c.next_live.ensures.cursor },
      tt,
    )

pub returns-clause-steps : goal.returns-clause-steps
returns-clause-steps g c =
    let now = c.args.self.now.map.now in
    let key = g.K.Key.data_of c.in_ok-key.key in
    let found = c.in_ok-key.ensures.live in
    let well = c.next_live.ensures.valid in
    let removes = c.take_live.ensures.removes in
    let value = c.take_live.ensures.value in
    let above = later g c in (
      (value, removes),
      (
        refl,
        λ end empties. Empties-first now c.take_live.new.self end key well found.0 removes c.take_live.ensures.valid.capacity
            (λ q there. omega (arith, above q there, c.in_ok-key.ensures.on)) empties,
      ),
      goes_on g c,
      first_entry now well c.args.self.now.cursor.index key c.in_ok-key.ensures.first c.take_live.result c.requires.above value
          ∙ ap (λ m. (key, c.take_live.result) ∷ map.entries m) (sym removes.live),
    )

pub returns-clause-goes : goal.returns-clause-goes
returns-clause-goes g c =
    let now = c.args.self.now.map.now in
    let key = g.K.Key.data_of c.in_ok-key.key in
    record {
      on = λ finite. (goes_on g c, finite, omega (arith, ap map.len c.take_live.ensures.removes.live, len_removed keys_total exact_keys now.live key c.in_ok-key.ensures.live.0));
      keeps = goes_on g c;
      rests = λ _. tt;
    }
