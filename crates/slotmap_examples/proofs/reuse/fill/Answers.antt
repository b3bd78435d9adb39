use Rattle.std.proofs.Common.{◌∙◌, arith}
use Rattle.slotmap.proofs.Callers.{inserted_first, inserted_len}
use Rattle.slotmap_examples.proofs.reuse.fill.Goals as goal

pub unreachable-requires : goal.unreachable-requires
unreachable-requires g c =
    let i = c.loop.invariant in
    let room = c.requires.room in
    let valid = c.insert.ensures.valid.before in
    grind (arith, i.room, c.loop-test.true, c.insert.ensures.err, valid.limit)

pub loop-preserved : goal.loop-preserved
loop-preserved g c =
    let i = c.loop.invariant in
    let more = c.loop-test.true in
    let inserts = c.in-Ok.ensures.ok in
    let valid = c.insert.ensures.valid in
    record {
      as_many = omega (arith, i.as_many, inserted_len _ _ _ _ _ valid.before inserts);
      capacity = valid.in_place (omega (arith, i.room, c.requires.room)) ∙ i.capacity;
      room = omega (arith, i.room, inserts.room);
      within = omega arith;
      first = λ all. inserted_first _ _ _ _ valid.before (i.first all) inserts;
    }

pub returns-clause-none_last : goal.returns-clause-none_last
returns-clause-none_last g c none not_last = (c.loop.invariant.first record { none_vacant = none; none_last = not_last }).none_last
