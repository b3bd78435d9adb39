use Rattle.slotmap_entities.proofs.Common.{refl, table_live, offered_index, spawned_bare, spawned_fresh, spawned_index, spawned_spent, spawned_still, spawned_unspent}
use Rattle.slotmap_entities.proofs.Spawning.{gets_others, gets_there}
use Rattle.slotmap_entities.proofs.World.spawn_with.Goals as goal

pub invariant_of-self : goal.invariant_of-self
invariant_of-self g c =
    let old = c.self.inside.entities.content in
    let new = c.spawn_with.new.entities.content in
    let given = c.spawn_with.ensures in
    let still = spawned_still old new g.K.Key.data_of c.args.entity c.spawn_with.result given.entities.adds given.entities.unchanged in
    table_live new (g.T.Tables.has c.self.inside.tables) (λ k there. still k (c.self.invariant k there)) _ _ given.beside
    (g.met.C.Kind.has_no_more c.self.inside.tables c.spawn_with.new.table)

pub returns : goal.returns
returns g c =
    let k = g.K.Key.data_of in
    let old = c.self.inside.entities.content in
    let new = c.spawn_with.new.entities.content in
    let given = c.spawn_with.ensures in
    let got = rw c.table_mut-table.ensures.value at given.component in
    let valid = given.entities.valid.content in
    rw (← c.self.view_is, g.met.C.Kind.table_put c.self.inside.tables c.spawn_with.new.table) (record {
      adds = given.entities.adds;
      there = gets_there c.spawn_with.result got;
      no_others = spawned_bare old new k c.args.entity c.spawn_with.result valid given.entities.adds (g.T.Tables.has c.self.inside.tables) c.self.invariant;
      fresh = spawned_fresh old new k c.args.entity c.spawn_with.result valid given.entities.adds;
      unspent = spawned_unspent old new k c.args.entity c.spawn_with.result valid given.entities.adds;
      index = spawned_index old new k c.args.entity c.spawn_with.result valid given.entities.adds;
      order = given.entities.order;
      room = rw c.table_mut-table.ensures.value at given.room;
      less_room = got.less_room;
      refused_room = got.refused_room;
      offered = offered_index old valid;
      in_place = given.entities.in_place;
      capacity = given.entities.capacity;
      err = given.entities.err;
      unchanged = given.entities.unchanged;
      same_order = given.entities.same_order;
      same_components = got.same;
      others = gets_others c.spawn_with.result got;
      kinds = refl;
      gone = spawned_spent old new k c.args.entity c.spawn_with.result valid given.entities.adds given.entities.unchanged;
    })
