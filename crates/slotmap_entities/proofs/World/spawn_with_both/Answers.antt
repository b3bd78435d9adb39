use Rattle.slotmap_entities.proofs.Common.{offered_index, spawned_bare, spawned_fresh, spawned_index, spawned_spent, spawned_unspent}
use Rattle.slotmap_entities.proofs.World.spawn_with_both.Goals as goal

pub invariant_of-self : goal.invariant_of-self
invariant_of-self g c = c.spawn_with_both.ensures.only_live

-- what the tables and the entities are, as the call within leaves them
pub returns : goal.returns
returns g c =
    let k = g.K.Key.data_of in
    let old = c.self.inside.entities.content in
    let new = c.spawn_with_both.new.entities.content in
    let given = c.spawn_with_both.ensures in
    let valid = given.entities.valid.content in
    rw (← c.self.view_is) (record {
      adds = given.entities.adds;
      first = given.first.gains;
      second = given.second.gains;
      order = given.entities.order;
      room = given.room;
      less_first_room = given.first.less_room;
      less_second_room = given.second.less_room;
      refused_first_room = given.first.refused_room;
      refused_second_room = given.second.refused_room;
      in_place = given.entities.in_place;
      capacity = given.entities.capacity;
      err = given.entities.err;
      unchanged = given.entities.unchanged;
      same_order = given.entities.same_order;
      same_first = given.first.same;
      same_second = given.second.same;
      kinds = given.kinds;
      no_others = spawned_bare old new k c.args.entity c.spawn_with_both.result valid given.entities.adds (g.T.Tables.has c.self.inside.tables) c.self.invariant;
      fresh = spawned_fresh old new k c.args.entity c.spawn_with_both.result valid given.entities.adds;
      unspent = spawned_unspent old new k c.args.entity c.spawn_with_both.result valid given.entities.adds;
      index = spawned_index old new k c.args.entity c.spawn_with_both.result valid given.entities.adds;
      offered = offered_index old valid;
      gone = spawned_spent old new k c.args.entity c.spawn_with_both.result valid given.entities.adds given.entities.unchanged;
    })
