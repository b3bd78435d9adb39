use Rattle.slotmap_entities.proofs.Common.{ap, arith, refl, ◌∙◌, own_beside, table_live, inserted_live, kept_still, when_ok}
use Rattle.slotmap_entities.proofs.Spawning.{gets_err, gets_last, gets_none, gets_ok, spawn_goes_on, spawn_refused, spawn_refused_second}
use Rattle.slotmap_entities.proofs.spawn_both.spawn_with_both.Goals as goal

pub attach-requires : goal.attach-requires
attach-requires g c k there =
    let tables = c.args.tables.now in
    let room = g.B.Kind.with_table tables c.make_room.new.table in
    let same = g.met.B.Kind.table_put tables c.make_room.new.table in
    let before = c.table_mut-in-Ok-spawn_with.ensures.value ∙ g.met.A.Apart.second_kept room c.spawn_with.new.table ∙ same in
    let pairs = ap g.B.Table.Table.pairs before ∙ c.in-Ok.ensures.same_components ∙ ap g.B.Table.Table.pairs c.table_mut.ensures.value in
    let beside = own_beside c.args.entities.now.content (g.T.Tables.has tables) c.requires (g.B.Table.Table.pairs (g.B.Kind.table tables)) (g.met.B.Kind.has_own tables) in
    kept_still _ _ _ _ _ c.in-Ok.ensures.keeps c.in-Ok-spawn_with.ensures.entities.adds k (beside k (rw pairs at there))

-- no room could be made
pub returns-in-Err : goal.returns-in-Err
returns-in-Err g c =
    let old = c.args.entities.now.content in
    let tables = c.args.tables.now in
    let m = c.make_room.new.table in
    let given = c.in-Err.ensures in
    let made = given.same_components ∙ ap g.B.Table.Table.pairs c.table_mut.ensures.value in
    let beside = own_beside old (g.T.Tables.has tables) c.requires (g.B.Table.Table.pairs (g.B.Kind.table tables)) (g.met.B.Kind.has_own tables) in
    record {
      entities = rw c.refused.ensures (spawn_refused _ _ _ _ _ _ given.err
          (record { keeps = given.keeps; order = given.order; in_place = given.in_place; capacity = given.capacity; valid = given.valid.0 }));
      first = rw (g.met.A.Apart.first_kept tables m) (gets_none g.met.A.Table.Table.fewer_fit _ refl (λ i count fit. fit));
      second = rw (g.met.B.Kind.table_put tables m)
          (gets_none g.met.B.Table.Table.fewer_fit _ made (λ i count fit. given.same_room i count (rw c.table_mut.ensures.value fit)));
      room = λ has first second. given.room has (rw c.table_mut.ensures.value second);
      kinds = rw (g.met.A.Apart.first_kept tables m, g.met.B.Kind.table_put tables m, g.met.A.Kind.same_put tables) refl;
      only_live = λ k there. rw given.keeps.live (table_live old (g.T.Tables.has tables) c.requires (g.B.Table.Table.pairs m) _
          (rw made beside) (g.met.B.Kind.has_no_more tables m) k there);
    }

pub returns-in-Ok-spawn_with : goal.returns-in-Ok-spawn_with
returns-in-Ok-spawn_with g c =
    let old = c.args.entities.now.content in
    let new = c.spawn_with.new.entities.content in
    let tables = c.args.tables.now in
    let room = g.B.Kind.with_table tables c.make_room.new.table in
    let spawned = g.A.Kind.with_table room c.spawn_with.new.table in
    let made = c.in-Ok.ensures in
    let given = c.in-Ok-spawn_with.ensures in
    let first_was = c.table_mut-2.ensures.value ∙ g.met.A.Apart.first_kept tables c.make_room.new.table in
    let first_is = g.met.A.Apart.first_kept spawned c.attach.new.table ∙ g.met.A.Kind.table_put room c.spawn_with.new.table in
    let same = g.met.B.Kind.table_put tables c.make_room.new.table in
    let second_was = c.table_mut-in-Ok-spawn_with.ensures.value ∙ g.met.A.Apart.second_kept room c.spawn_with.new.table ∙ same in
    let second_is = g.met.B.Kind.table_put spawned c.attach.new.table in
    let same_pairs = made.same_components ∙ ap g.B.Table.Table.pairs c.table_mut.ensures.value in
    let pairs = ap g.B.Table.Table.pairs second_was ∙ same_pairs in
    let index = ap (λ k. k.index) (given.entities.adds.offered ∙ made.keeps.offer) in
    let ok = c.attach.ensures.room (inserted_live _ _ _ _ given.entities.adds) (rw (second_was, index) made.fits) in
    let order = g.met.A.Apart.any_order tables c.spawn_with.new.table c.make_room.new.table in
    let beside = own_beside old (g.T.Tables.has tables) c.requires (g.B.Table.Table.pairs (g.B.Kind.table tables)) (g.met.B.Kind.has_own tables) in
    let before = table_live old (g.T.Tables.has tables) c.requires (g.B.Table.Table.pairs c.make_room.new.table) (g.T.Tables.has room)
    (rw same_pairs beside) (g.met.B.Kind.has_no_more tables c.make_room.new.table) in
    let still = kept_still _ _ _ _ _ made.keeps given.entities.adds in
    let first = table_live new (g.T.Tables.has room) (λ k there. still k (before k there)) _ (g.T.Tables.has spawned)
    given.beside (g.met.A.Kind.has_no_more room c.spawn_with.new.table) in
    record {
      entities = spawn_goes_on (record { keeps = made.keeps; order = made.order; in_place = made.in_place; capacity = made.capacity; valid = made.valid.0 })
          _ _ given.entities;
      first = rw (first_is, ← first_was) (gets_ok _ given.component);
      second = rw second_is (gets_last c.table_mut-in-Ok-spawn_with.result.now _ pairs (λ i count fit. rw second_was (made.same_room i count (rw c.table_mut.ensures.value fit)))
          (when_ok c.attach.result ok c.attach.ensures.there) c.attach.ensures.others c.attach.ensures.less_room);
      room = λ has first second. refl;
      kinds = rw (first_is, second_is) (ap (λ t. g.B.Kind.with_table t c.attach.new.table) order
          ∙ g.met.B.Kind.put_twice (g.A.Kind.with_table tables c.spawn_with.new.table) c.make_room.new.table c.attach.new.table);
      only_live = table_live new (g.T.Tables.has spawned) first _ _ c.attach.ensures.beside (g.met.B.Kind.has_no_more spawned c.attach.new.table);
    }

-- where the entity and the first component are refused, the second table has no less room
pub returns-in-Err-spawn_with : goal.returns-in-Err-spawn_with
returns-in-Err-spawn_with g c =
    let old = c.args.entities.now.content in
    let new = c.spawn_with.new.entities.content in
    let tables = c.args.tables.now in
    let m = c.make_room.new.table in
    let room = g.B.Kind.with_table tables m in
    let made = c.in-Ok.ensures in
    let given = c.in-Err-spawn_with.ensures in
    let first_was = c.table_mut-2.ensures.value ∙ g.met.A.Apart.first_kept tables m in
    let first_is = g.met.A.Kind.table_put room c.spawn_with.new.table in
    let second_is = g.met.A.Apart.second_kept room c.spawn_with.new.table ∙ g.met.B.Kind.table_put tables m in
    let same_pairs = made.same_components ∙ ap g.B.Table.Table.pairs c.table_mut.ensures.value in
    let beside = own_beside old (g.T.Tables.has tables) c.requires (g.B.Table.Table.pairs (g.B.Kind.table tables)) (g.met.B.Kind.has_own tables) in
    let before = table_live old (g.T.Tables.has tables) c.requires (g.B.Table.Table.pairs m) (g.T.Tables.has room) (rw same_pairs beside) (g.met.B.Kind.has_no_more tables m) in
    record {
      entities = rw c.beside.ensures (spawn_refused_second
          (record { keeps = made.keeps; order = made.order; in_place = made.in_place; capacity = made.capacity; valid = made.valid.0 }) _ _ given.entities);
      first = rw (first_is, ← first_was) (gets_err _ _ given.component);
      second = rw second_is (gets_none g.met.B.Table.Table.fewer_fit _ same_pairs (λ i count fit. made.same_room i count (rw c.table_mut.ensures.value fit)));
      room = λ has first second. given.room (omega (arith, has, made.keeps.room)) (rw (first_was, made.keeps.offer) first);
      kinds = rw (first_is, second_is) (g.met.A.Apart.any_order tables c.spawn_with.new.table m);
      only_live = table_live new (g.T.Tables.has room) (λ k there. rw (given.entities.unchanged.live, made.keeps.live) (before k there)) _ _
          given.beside (g.met.A.Kind.has_no_more room c.spawn_with.new.table);
    }
