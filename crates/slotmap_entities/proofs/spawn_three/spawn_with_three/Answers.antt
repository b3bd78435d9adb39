use Rattle.slotmap_entities.proofs.Common.{ap, arith, refl, sym, ◌∙◌, own_beside, table_live, inserted_live, kept_still, when_ok}
use Rattle.slotmap_entities.proofs.Spawning.{gets_err, gets_last, gets_none, gets_ok, spawn_goes_on, spawn_refused, spawn_refused_third}
use Rattle.slotmap_entities.proofs.spawn_three.spawn_with_three.Goals as goal

-- room in the third table changes no component, so only entities have some
pub spawn_with_both-requires : goal.spawn_with_both-requires
spawn_with_both-requires g c k there =
    let old = c.args.entities.now.content in
    let tables = c.args.tables.now in
    let made = c.in-Ok.ensures.same_components ∙ ap g.C.Table.Table.pairs c.table_mut.ensures.value in
    let beside = own_beside old (g.T.Tables.has tables) c.requires (g.C.Table.Table.pairs (g.C.Kind.table tables)) (g.met.C.Kind.has_own tables) in
    rw c.in-Ok.ensures.keeps.live (table_live old (g.T.Tables.has tables) c.requires (g.C.Table.Table.pairs c.make_room.new.table) _
    (rw made beside) (g.met.C.Kind.has_no_more tables c.make_room.new.table) k there)

pub attach-requires : goal.attach-requires
attach-requires g c k there =
    let tables = c.args.tables.now in
    let room = g.C.Kind.with_table tables c.make_room.new.table in
    let both = c.spawn_with_both.new.tables in
    let first = g.A.Kind.with_table room (g.A.Kind.table both) in
    let same = g.met.C.Kind.table_put tables c.make_room.new.table in
    let before = c.table_mut-in-Ok-spawn_with_both.ensures.value ∙ ap g.C.Kind.table c.in-Ok-spawn_with_both.ensures.kinds
    ∙ g.met.B.Apart.second_kept first (g.B.Kind.table both) ∙ g.met.C.Apart.first_kept room (g.A.Kind.table both) ∙ same in
    let pairs = ap g.C.Table.Table.pairs before ∙ c.in-Ok.ensures.same_components ∙ ap g.C.Table.Table.pairs c.table_mut.ensures.value in
    let beside = own_beside c.args.entities.now.content (g.T.Tables.has tables) c.requires (g.C.Table.Table.pairs (g.C.Kind.table tables)) (g.met.C.Kind.has_own tables) in
    kept_still _ _ _ _ _ c.in-Ok.ensures.keeps c.in-Ok-spawn_with_both.ensures.entities.adds k (beside k (rw pairs at there))

-- no room could be made
pub returns-in-Err : goal.returns-in-Err
returns-in-Err g c =
    let old = c.args.entities.now.content in
    let tables = c.args.tables.now in
    let m = c.make_room.new.table in
    let given = c.in-Err.ensures in
    let made = given.same_components ∙ ap g.C.Table.Table.pairs c.table_mut.ensures.value in
    let beside = own_beside old (g.T.Tables.has tables) c.requires (g.C.Table.Table.pairs (g.C.Kind.table tables)) (g.met.C.Kind.has_own tables) in
    record {
      entities = rw c.refused.ensures (spawn_refused _ _ _ _ _ _ given.err
          (record { keeps = given.keeps; order = given.order; in_place = given.in_place; capacity = given.capacity; valid = given.valid.0 }));
      first = rw (g.met.C.Apart.second_kept tables m) (gets_none g.met.A.Table.Table.fewer_fit _ refl (λ i count fit. fit));
      second = rw (g.met.B.Apart.first_kept tables m) (gets_none g.met.B.Table.Table.fewer_fit _ refl (λ i count fit. fit));
      third = rw (g.met.C.Kind.table_put tables m)
          (gets_none g.met.C.Table.Table.fewer_fit _ made (λ i count fit. given.same_room i count (rw c.table_mut.ensures.value fit)));
      room = λ has first second third. given.room has (rw c.table_mut.ensures.value third);
      kinds = rw (g.met.C.Apart.second_kept tables m, g.met.B.Apart.first_kept tables m, g.met.C.Kind.table_put tables m, g.met.A.Kind.same_put tables, g.met.B.Kind.same_put tables) refl;
      only_live = λ k there. rw given.keeps.live (table_live old (g.T.Tables.has tables) c.requires (g.C.Table.Table.pairs m) _
          (rw made beside) (g.met.C.Kind.has_no_more tables m) k there);
    }

pub returns-in-Ok-spawn_with_both : goal.returns-in-Ok-spawn_with_both
returns-in-Ok-spawn_with_both g c =
    let new = c.spawn_with_both.new.entities.content in
    let tables = c.args.tables.now in
    let room = g.C.Kind.with_table tables c.make_room.new.table in
    let both = c.spawn_with_both.new.tables in
    let a = g.A.Kind.table both in
    let b = g.B.Kind.table both in
    let made = c.in-Ok.ensures in
    let given = c.in-Ok-spawn_with_both.ensures in
    let first_was = g.met.C.Apart.second_kept tables c.make_room.new.table in
    let second_was = g.met.B.Apart.first_kept tables c.make_room.new.table in
    let first_is = g.met.C.Apart.second_kept both c.attach.new.table in
    let second_is = g.met.B.Apart.first_kept both c.attach.new.table in
    let third_is = g.met.C.Kind.table_put both c.attach.new.table in
    let third_was = c.table_mut-in-Ok-spawn_with_both.ensures.value ∙ ap g.C.Kind.table given.kinds
    ∙ g.met.B.Apart.second_kept (g.A.Kind.with_table room a) b ∙ g.met.C.Apart.first_kept room a ∙ g.met.C.Kind.table_put tables c.make_room.new.table in
    let pairs = ap g.C.Table.Table.pairs third_was ∙ made.same_components ∙ ap g.C.Table.Table.pairs c.table_mut.ensures.value in
    let index = ap (λ k. k.index) (given.entities.adds.offered ∙ made.keeps.offer) in
    let ok = c.attach.ensures.room (inserted_live _ _ _ _ given.entities.adds) (rw (third_was, index) made.fits) in
    let moved = ap (λ t. g.B.Kind.with_table t b) (sym (g.met.C.Apart.any_order tables c.make_room.new.table a))
    ∙ g.met.B.Apart.any_order (g.A.Kind.with_table tables a) b c.make_room.new.table in
    record {
      entities = spawn_goes_on (record { keeps = made.keeps; order = made.order; in_place = made.in_place; capacity = made.capacity; valid = made.valid.0 })
          _ _ given.entities;
      first = rw (first_is, ← first_was) (gets_ok _ given.first);
      second = rw (second_is, ← second_was) (gets_ok _ given.second);
      third = rw third_is (gets_last c.table_mut-in-Ok-spawn_with_both.result.now _ pairs (λ i count fit. rw third_was (made.same_room i count (rw c.table_mut.ensures.value fit)))
          (when_ok c.attach.result ok c.attach.ensures.there) c.attach.ensures.others c.attach.ensures.less_room);
      room = λ has first second third. refl;
      kinds = rw (first_is, second_is, third_is) (ap (λ t. g.C.Kind.with_table t c.attach.new.table) (given.kinds ∙ moved)
          ∙ g.met.C.Kind.put_twice (g.B.Kind.with_table (g.A.Kind.with_table tables a) b) c.make_room.new.table c.attach.new.table);
      only_live = table_live new (g.T.Tables.has both) given.only_live _ _ c.attach.ensures.beside (g.met.C.Kind.has_no_more both c.attach.new.table);
    }

-- where the entity and the first two components are refused, the third table has no less room
pub returns-in-Err-spawn_with_both : goal.returns-in-Err-spawn_with_both
returns-in-Err-spawn_with_both g c =
    let tables = c.args.tables.now in
    let m = c.make_room.new.table in
    let room = g.C.Kind.with_table tables m in
    let both = c.spawn_with_both.new.tables in
    let a = g.A.Kind.table both in
    let b = g.B.Kind.table both in
    let made = c.in-Ok.ensures in
    let given = c.in-Err-spawn_with_both.ensures in
    let first_was = g.met.C.Apart.second_kept tables m in
    let second_was = g.met.B.Apart.first_kept tables m in
    let third_was = ap g.C.Kind.table given.kinds ∙ g.met.B.Apart.second_kept (g.A.Kind.with_table room a) b
    ∙ g.met.C.Apart.first_kept room a ∙ g.met.C.Kind.table_put tables m in
    let moved = ap (λ t. g.B.Kind.with_table t b) (sym (g.met.C.Apart.any_order tables m a)) ∙ g.met.B.Apart.any_order (g.A.Kind.with_table tables a) b m in
    record {
      entities = rw c.beside.ensures (spawn_refused_third
          (record { keeps = made.keeps; order = made.order; in_place = made.in_place; capacity = made.capacity; valid = made.valid.0 }) _ _ given.entities);
      first = rw (← first_was) (gets_err _ _ given.first);
      second = rw (← second_was) (gets_err _ _ given.second);
      third = rw third_was (gets_none g.met.C.Table.Table.fewer_fit _ (made.same_components ∙ ap g.C.Table.Table.pairs c.table_mut.ensures.value)
          (λ i count fit. made.same_room i count (rw c.table_mut.ensures.value fit)));
      room = λ has first second third. given.room (omega (arith, has, made.keeps.room)) (rw (first_was, made.keeps.offer) first)
          (rw (second_was, made.keeps.offer) second);
      kinds = rw third_was (given.kinds ∙ moved);
      only_live = given.only_live;
    }
