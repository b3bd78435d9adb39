use Rattle.slotmap_entities.proofs.Common.{ap, refl, ◌∙◌, inserted_live, kept_still, when_ok}
use Rattle.slotmap_entities.proofs.Spawning.{gets_last, gets_none, spawn_goes_on, spawn_inserted, spawn_refused}
use Rattle.slotmap_entities.proofs.spawn.spawn_with.Goals as goal

pub attach-requires : goal.attach-requires
attach-requires g c k there =
    kept_still _ _ _ _ _ c.in-Ok.ensures.keeps c.in-Ok-insert.ensures.ok k (c.requires k (rw c.in-Ok.ensures.same_components at there))

-- no room could be made
pub returns-in-Err : goal.returns-in-Err
returns-in-Err g c =
    let given = c.in-Err.ensures in
    record {
      entities = rw c.refused.ensures (spawn_refused _ _ _ _ _ _ given.err
          (record { keeps = given.keeps; order = given.order; in_place = given.in_place; capacity = given.capacity; valid = given.valid.0 }));
      component = gets_none g.met.M.Table.fewer_fit _ given.same_components given.same_room;
      room = λ has fit. given.room has fit;
      beside = λ k there. rw given.keeps.live (c.requires k (rw given.same_components at there));
    }

pub returns-in-Ok-insert : goal.returns-in-Ok-insert
returns-in-Ok-insert g c =
    let made = c.in-Ok.ensures in
    let given = c.in-Ok-insert.ensures in
    let index = ap (λ k. k.index) (given.ok.offered ∙ made.keeps.offer) in
    let ok = c.attach.ensures.room (inserted_live _ _ _ _ given.ok) (rw index made.fits) in
    record {
      entities = spawn_goes_on (record { keeps = made.keeps; order = made.order; in_place = made.in_place; capacity = made.capacity; valid = made.valid.0 })
          _ _ (spawn_inserted {component = c.args.component} _ given.valid given.ok given.order);
      component = gets_last c.make_room.new.table _ made.same_components made.same_room (when_ok c.attach.result ok c.attach.ensures.there) c.attach.ensures.others c.attach.ensures.less_room;
      room = λ has fit. refl;
      beside = c.attach.ensures.beside;
    }
