-- What a world is once a returned `&mut` into it ends.
use Rattle.std.specs.Prelude.{Option}
use Rattle.std.specs.Borrow.{LendsIf, Fml, RattleType, MutBor}
use Rattle.slotmap.specs.Words.{Key, KeyMembers, with_value_of}
use Rattle.slotmap_entities.specs.World.{World}
use Rattle.slotmap_entities.specs.declared.tuples.Tables.{Ghosts}
use Rattle.slotmap_entities.specs.contracts.World.{the_row}

module _ (K E T P : RattleType) (key : KeyMembers K.Denot) (tables : Ghosts T.Denot K.Denot P.Denot) where
  -- the type of the world in the logic
  abbrev pub world_row : RattleType
  world_row =
      the_row K E T P (record { data_of = key.data_of; of_data = key.of_data }) (record { from_gives = key.from_gives })
      (record { is_default = key.is_default }) (record { eq = key.eq }) (record { cmp = key.cmp }) (record { partial_cmp = key.partial_cmp })
      (record { hash_input = key.hash_input }) (record { debug_output = key.debug_output }) tables

  -- once the borrow ends, the entity has the last value written through it; at `None` nothing changes
  abbrev pub lends_entity : MutBor (World E.Denot T.Denot) → Key → Option (MutBor E.Denot) → Fml
  lends_entity world k r = LendsIf world_row E world r (λ v. record world.now { entities = with_value_of world.now.entities k v }) world.now

  -- once the borrow ends, the tables are as `put` says of the last component written through it; at `None` nothing changes
  abbrev pub lends_component : (C : RattleType) → MutBor (World E.Denot T.Denot) → (C.Denot → T.Denot) → Option (MutBor C.Denot) → Fml
  lends_component C world put r = LendsIf world_row C world r (λ v. record world.now { tables = put v }) world.now
